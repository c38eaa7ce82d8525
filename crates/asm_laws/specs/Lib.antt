pub mod Inverse
pub mod Subcommands
