pub mod Parcels
pub mod Calls
