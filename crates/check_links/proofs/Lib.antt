-- The check on the bytes: what its parts read, that on sound bytes the test of the links is the check of specs/, and what the answer says.
pub mod Parts
pub mod Runs
pub mod Whole
pub mod Facts
pub mod Settled
pub mod Determined
