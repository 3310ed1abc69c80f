pub mod Grammar
pub mod Machine
