pub mod Accepting
pub mod Announcing
pub mod Filing
