pub mod NearLaws
pub mod FedLaws
pub mod RelativeLaws
pub mod Limited
