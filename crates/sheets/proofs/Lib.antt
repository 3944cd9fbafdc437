mod Gathering
pub mod Loaded
mod InBytes
mod SavedAgain
pub mod LoadedAgain
