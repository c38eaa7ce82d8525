pub mod Gathers
pub mod Meant
pub mod Found
pub mod Alike
pub mod Rewritten
pub mod Formed
pub mod Unknown
pub mod Ranges
