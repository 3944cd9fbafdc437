pub mod Refusals
pub mod Rows
pub mod Limits
pub mod Platforms
