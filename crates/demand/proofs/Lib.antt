mod Ceiling
mod OwnCore
mod Keeping
mod Reckoning
mod Searching
mod Fetching
