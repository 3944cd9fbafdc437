pub mod Contents
pub mod Settling
pub mod Sheets
