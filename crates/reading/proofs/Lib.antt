-- Why open and the readings answer what their definitions say.
pub mod Filled
pub mod Counted
pub mod Placed
pub mod Refusals
pub mod Values
pub mod Determined
