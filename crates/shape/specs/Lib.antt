pub mod Limits
pub mod LimitsLaws
pub mod Layout
pub mod LayoutLaws
