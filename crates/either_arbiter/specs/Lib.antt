pub mod Account
pub mod Laws
