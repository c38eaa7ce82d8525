mod Sums
mod Logs
mod Moves
mod Steps
mod Keeps
mod Noted
mod Acting
mod MoverKeeps
mod Slots
pub mod One
mod Joining
pub mod Sorting
mod Seating
mod Few
mod Legal
mod Learnt
