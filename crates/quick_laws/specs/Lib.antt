pub mod Quick
pub mod Rows
