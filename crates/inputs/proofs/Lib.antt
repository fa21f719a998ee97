-- Why every input is a list of calls.
pub mod Calls
pub mod EveryInput
