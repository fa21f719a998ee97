-- What only contracts of inner functions cite; a reader of the public contracts can skip it.
pub mod Cell
pub mod Sent
pub mod Opened
pub mod Entry
