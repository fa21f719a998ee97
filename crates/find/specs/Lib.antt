-- What find answers on the bytes of a record.
pub mod Find
pub mod Answer
pub mod Way
pub mod inner
