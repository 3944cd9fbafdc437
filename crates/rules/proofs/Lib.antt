pub mod Found
pub mod Kept
