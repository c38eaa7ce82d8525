pub mod Handle
pub mod Codes
pub mod Commanded
pub mod Shown
pub mod Handing
pub mod Texts
