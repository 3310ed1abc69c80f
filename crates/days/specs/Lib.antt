pub mod Pair
pub mod Records
pub mod Counted
pub mod Kind
