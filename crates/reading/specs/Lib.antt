-- The answers of the readings.
pub mod Answer
