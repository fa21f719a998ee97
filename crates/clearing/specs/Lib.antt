-- What the inner steps of a turn leave.
pub mod inner
