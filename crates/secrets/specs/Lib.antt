pub mod Derivation
pub mod Store
