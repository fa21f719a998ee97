-- What a delivery does to the bytes of a record.
pub mod inner
