pub mod Fitted
pub mod Taken
