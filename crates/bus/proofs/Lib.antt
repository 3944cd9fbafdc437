pub mod AtMost
pub mod Served
pub mod Courses
pub mod Masks
pub mod Refused
