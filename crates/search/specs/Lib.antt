-- The search for the lot of a scanned number, and the check of the links. Names no byte.
pub mod Walk
pub mod Check
pub mod Right
pub mod inner
