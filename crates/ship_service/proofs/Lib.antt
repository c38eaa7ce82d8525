pub mod Crossing
mod Short
mod Tried
mod Told
mod Found
mod Kept
mod Seen
mod Rising
pub mod Settled
pub mod Granted
mod Dealt
mod Conversed
mod Written
pub mod Saying
