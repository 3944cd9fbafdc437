pub mod Steps
pub mod TwoThenZero
