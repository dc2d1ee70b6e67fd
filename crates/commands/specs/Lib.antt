pub mod Faults
pub mod Parsing
