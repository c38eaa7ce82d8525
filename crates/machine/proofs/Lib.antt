pub mod Words
pub mod KeptGrants
pub mod TableOfRights
pub mod NextSlots
pub mod FrameOrder
pub mod DoneRows
mod AnyRow
pub mod ValidRows
pub mod StepCases
pub mod OneWay
pub mod Stopping
pub mod Fuel
pub mod Wholeness
pub mod Pointers
pub mod Changes
pub mod Others
pub mod Carried
pub mod Replaying
pub mod SameReplays
pub mod Confined
pub mod Granted
pub mod Executing
pub mod Running
pub mod GrantedWork
pub mod Dispatching
mod Past
mod Reaching
pub mod Crossing
