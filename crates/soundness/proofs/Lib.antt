-- Why the soundness test says what its clauses say.
pub mod Numbers
pub mod Buckets
pub mod Kept
pub mod LinkByte
pub mod Refusal
pub mod PendingPasses
pub mod PendingWord
