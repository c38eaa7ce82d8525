pub mod Back
pub mod Granting
pub mod HeldValues
pub mod Reading
pub mod Standing
pub mod Values
