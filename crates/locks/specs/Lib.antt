pub mod Figures
pub mod Group
pub mod Meaning
pub mod Turns
