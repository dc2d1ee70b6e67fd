pub mod Layers
pub mod Reasons
pub mod Refusals
