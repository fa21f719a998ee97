-- Document 01's proved cases over the definitions of the crates below, and examples: the table of refusals, soundness on small records, scans that wait,
-- scans past leaving lots, reservations, a link written, crashes and components, merges.
pub mod Lists
pub mod Cases
pub mod Small
pub mod SoundExamples
pub mod Refusals
pub mod Scans
pub mod Leavers
pub mod Reservations
pub mod Writings
pub mod Crashes
pub mod Merges
