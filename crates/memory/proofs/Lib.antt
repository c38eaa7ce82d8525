pub mod Replacing
pub mod Lengths
pub mod Accesses
pub mod Promised
