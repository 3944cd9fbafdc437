pub mod Turnover
pub mod Account
pub mod Laws
pub mod Opened
