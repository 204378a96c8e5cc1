pub mod Bits
pub mod Shifts
