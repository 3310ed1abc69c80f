pub mod Slot
pub mod Bits
