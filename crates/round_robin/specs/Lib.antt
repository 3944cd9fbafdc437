pub mod Rings
pub mod Account
pub mod Example
pub mod Laws
pub mod Ring
