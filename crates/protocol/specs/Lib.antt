-- What the protocol does, on the meaning of a record. Names no byte.
pub mod Message
pub mod Numbering
pub mod Order
pub mod Rules
pub mod State
pub mod Refusals
pub mod Page
pub mod Freeing
pub mod Sound
pub mod pages
pub mod Calls
pub mod Bundle
pub mod Local
pub mod Tied
pub mod Run
pub mod inner
