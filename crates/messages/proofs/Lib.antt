-- The place of a message by its five numbers, and the message at a place.
pub mod Named
pub mod Placed
pub mod Blocks
pub mod Standing
pub mod First
pub mod Round
