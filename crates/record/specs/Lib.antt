-- The record in lent bytes: layout, meaning, bytes of a meaning, soundness, and what open and the readings answer. Names no rule.
pub mod Layout
pub mod Cell
pub mod Meaning
pub mod Sound
pub mod Reading
pub mod Call
pub mod Bundle
pub mod Local
pub mod Answer
pub mod Code
pub mod inner
