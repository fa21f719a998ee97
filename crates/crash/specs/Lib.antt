-- What the inner steps of a crash leave.
pub mod inner
