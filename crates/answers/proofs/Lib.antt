-- Why answers are put as the definitions say.
pub mod Parts
pub mod Words
pub mod Turns
