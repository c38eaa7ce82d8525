pub mod Instructions
pub mod ValidCode
pub mod Entries
pub mod Refusals
pub mod Laws
pub mod Rows
