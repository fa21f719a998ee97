-- Document 01's proved cases, and the examples.
pub mod Draining
pub mod View
pub mod Seen
pub mod Answers
pub mod Sole
pub mod Table
pub mod Small
pub mod OneByte
pub mod SoundExamples
pub mod Refusals
pub mod Scans
pub mod Leavers
pub mod Reservations
pub mod Writings
pub mod Crashes
pub mod Components
pub mod Merges
