pub mod Near
pub mod Fed
pub mod Relative
pub mod Highest
pub mod Count
pub mod Quiet
