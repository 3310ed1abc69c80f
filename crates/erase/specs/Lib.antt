pub mod Blank
