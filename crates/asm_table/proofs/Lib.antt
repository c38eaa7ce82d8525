pub mod Each
pub mod Lengths
pub mod Lookups
pub mod Printable
pub mod Rising
pub mod Searched
