-- The answers of the program in a lent buffer.
pub mod inner
