pub mod Judgement
pub mod Head
pub mod Part
