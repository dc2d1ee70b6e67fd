pub mod RoundTrip
pub mod Types
