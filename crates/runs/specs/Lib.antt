-- Demand 3 on the bytes: lists of calls on an opened record, and what holds after each.
pub mod Typed
pub mod Tied
pub mod Run
pub mod Drained
pub mod Merged
