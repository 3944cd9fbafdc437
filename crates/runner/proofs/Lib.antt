pub mod Looking
pub mod Starting
