pub mod Fronts
pub mod Literal
