pub mod Found
pub mod TraceLaws
