-- What only contracts of inner functions cite; a reader of the public contracts can skip it.
pub mod Whole
