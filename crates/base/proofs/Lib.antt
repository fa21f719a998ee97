-- Laws of tests, and of the loops of specs/Loops.antt.
pub mod Tests
pub mod Cases
pub mod All
pub mod Any
pub mod First
pub mod Count
pub mod Tabulate
pub mod Stops
pub mod Ranges
pub mod Bits
