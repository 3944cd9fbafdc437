pub mod Machine
pub mod Pool
pub mod Progress
pub mod Rows
pub mod Shown
pub mod Soonest
