pub mod Access
pub mod Deeds
pub mod Objects
pub mod Memories
pub mod MapMemory
pub mod Laws
