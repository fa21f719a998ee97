-- Demand 3 on the bytes, and what follows from it alone.
pub mod Same
pub mod Readings
pub mod Tied
pub mod Typed
pub mod Theorem
pub mod History
pub mod SameLots
pub mod Uses
pub mod Fields
pub mod Unmet
pub mod Reserved
pub mod Right
pub mod Bundles
pub mod Made
pub mod Drained
pub mod Together
pub mod Merged
