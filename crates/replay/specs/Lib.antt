pub mod Part
pub mod ReplayLaws
pub mod Fits
