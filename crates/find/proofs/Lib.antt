-- The search on the bytes.
pub mod Read
pub mod Steps
pub mod Leftward
pub mod Fits
pub mod Refused
pub mod Scans
pub mod Determined
