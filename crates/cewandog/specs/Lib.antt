-- The answers of the calls as numbers.
pub mod Numbers
