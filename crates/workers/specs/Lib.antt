pub mod TableNames
pub mod Cells
pub mod Pools
pub mod Moves
pub mod Closing
pub mod Turning
