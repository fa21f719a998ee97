-- What the definitions come to.
pub mod Examples
pub mod Steps
pub mod Firsts
pub mod Graph
pub mod Few
pub mod Long
pub mod Along
pub mod Order
pub mod Whole
