pub mod Amounts
pub mod Eights
pub mod Terms
pub mod Texts
