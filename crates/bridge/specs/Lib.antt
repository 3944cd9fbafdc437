pub mod Scripts
pub mod Stages
pub mod States
pub mod Moments
pub mod Runs
pub mod Promises
