pub mod Lines
pub mod Account
pub mod Laws
pub mod Line
