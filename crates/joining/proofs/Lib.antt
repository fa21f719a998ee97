-- Why join and leave do what the definitions say.
pub mod Rows
pub mod After
