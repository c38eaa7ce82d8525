pub mod Words
pub mod Registers
pub mod Table
pub mod Destination
pub mod Rows
pub mod Slots
