-- What loops over the numbers below a bound answer.
pub mod Loops
pub mod Bits
