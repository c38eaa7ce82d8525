pub mod Distinct
pub mod Sets
pub mod Hits
pub mod Pauses
pub mod Ran
