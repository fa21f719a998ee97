-- The command language of the program: which bytes are which command, and the text of a command. Names no record.
pub mod Ascii
pub mod Command
pub mod Text
pub mod Answer
pub mod inner
