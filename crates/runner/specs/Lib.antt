pub mod Lookups
pub mod Outcomes
