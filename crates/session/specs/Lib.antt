pub mod Example
pub mod Output
pub mod Parsing
pub mod Protocol
pub mod Session
pub mod SessionLaws
