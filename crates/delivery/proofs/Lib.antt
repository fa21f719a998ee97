-- Why a delivery is the protocol's.
pub mod Answers
pub mod Delivered
pub mod ByKind
pub mod Steps
pub mod Agree
pub mod Local
