-- The answer of a bundle.
pub mod Answer
pub mod inner
