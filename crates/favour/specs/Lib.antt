pub mod Account
pub mod Making
pub mod Laws
pub mod Turns
