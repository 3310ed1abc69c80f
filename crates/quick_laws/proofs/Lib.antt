pub mod QuickLaws
pub mod RowsLaws
pub mod Weighs
