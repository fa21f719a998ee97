-- The index of the words that have a set bit.
pub mod inner
