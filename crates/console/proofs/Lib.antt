mod Finding
pub mod LineTokens
pub mod GrantWords
pub mod HexPairs
pub mod CommandReading
pub mod Clips
pub mod Exchanges
pub mod Endings
pub mod CallsMade
mod Gathers
