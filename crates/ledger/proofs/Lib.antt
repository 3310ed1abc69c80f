pub mod ServedLaws
pub mod BookLaws
pub mod Agree
pub mod NextLaws
pub mod WindowLaws
pub mod ExactLaws
pub mod DemandLaws
