pub mod Bytes
pub mod Commitments
pub mod Drafts
pub mod Entries
pub mod Headings
pub mod Payments
pub mod Sinks
