pub mod Contains
pub mod Rows
