pub mod Caps
pub mod Cases
pub mod Offers
pub mod Rows
pub mod Settled
