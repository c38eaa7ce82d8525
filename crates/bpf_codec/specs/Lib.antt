pub mod Slots
pub mod Faults
pub mod Decoding
