pub mod Lent
pub mod LentLaws
pub mod Said
pub mod SaidLaws
