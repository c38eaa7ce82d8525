pub mod Bytes
pub mod Filling
pub mod Parcels
pub mod Serving
pub mod Calling
pub mod Deferred
