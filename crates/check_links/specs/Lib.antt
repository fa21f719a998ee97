-- What the check answers on the bytes of a record, and when a record is settled.
pub mod Check
pub mod Settled
pub mod Answer
