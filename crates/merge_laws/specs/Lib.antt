pub mod AcceptedMerge
pub mod MergedDay
pub mod Meets
pub mod HomeClocks
pub mod FirstNamed
pub mod Merging
