pub mod Turns
pub mod Means
pub mod Courses
pub mod Masks
