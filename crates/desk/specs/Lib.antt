pub mod Answers
pub mod Locked
pub mod NamedLocks
pub mod Statements
pub mod Texts
