pub mod Back
pub mod Derivations
pub mod Places
pub mod Zeros
