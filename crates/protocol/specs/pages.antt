-- A page for each call that changes the record.
pub mod Join
pub mod Reserve
pub mod Confirm
pub mod GiveBack
pub mod Leave
pub mod Deliver
pub mod Turn
pub mod Crash
pub mod Merge
