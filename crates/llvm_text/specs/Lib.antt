pub mod Listing
pub mod Signs
pub mod Spelling
