pub mod Windows
pub mod Places
pub mod Laws
