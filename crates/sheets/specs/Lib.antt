pub mod Bytes
pub mod Records
pub mod Entries
pub mod Spelled
pub mod Answers
pub mod Written
pub mod Theorems
