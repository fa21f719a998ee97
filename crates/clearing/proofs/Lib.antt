-- Why the steps of a turn are right.
pub mod Leaving
pub mod Telling
pub mod Freed
pub mod Unlinking
pub mod Accepted
pub mod Refused
pub mod Idle
