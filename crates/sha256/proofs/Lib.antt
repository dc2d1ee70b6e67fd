pub mod Arrays
pub mod Digests
pub mod Streams
pub mod Turns
