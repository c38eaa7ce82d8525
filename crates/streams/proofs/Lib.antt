pub mod ReadAtMost
pub mod Filling
