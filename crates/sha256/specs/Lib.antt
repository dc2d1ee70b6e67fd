pub mod Fips
pub mod Rounds
pub mod Stream
