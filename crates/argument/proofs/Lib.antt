-- what other crates may cite: sums, counts and limits, the theorems, and the tests of a written-out plan and log
pub mod Sums
pub mod Counts
pub mod Limits
pub mod Exchange
pub mod Reach
pub mod LongestFirst
pub mod Least
pub mod Instance
pub mod Checks
-- the way there
mod Searches
mod Shares
mod BusyWindow
mod Cover
mod OwnTicks
mod OtherCores
mod Bound
mod Numbered
mod Sample
mod Witnesses
