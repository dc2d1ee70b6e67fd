pub mod Gross
pub mod Logs
pub mod Resolutions
