pub mod Fees
pub mod Fills
pub mod Heads
pub mod Listing
pub mod Sizes
