pub mod Mnemonics
pub mod Names
pub mod Parts
pub mod Canonical
pub mod Laws
