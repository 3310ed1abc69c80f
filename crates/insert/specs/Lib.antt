pub mod Ready
pub mod Entry
pub mod Loop
