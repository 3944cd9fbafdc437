pub mod Lines
pub mod BoxRun
