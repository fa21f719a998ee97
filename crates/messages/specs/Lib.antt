-- The place of a message by its five numbers, and the message at a place.
pub mod Numbers
pub mod inner
