pub mod Queued
pub mod Box
