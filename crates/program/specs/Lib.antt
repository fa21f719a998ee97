-- What the program does: the text of each answer, what a line answers and leaves, whole inputs, and inputs in pieces.
pub mod Text
pub mod Print
pub mod Line
pub mod Input
pub mod Pieces
pub mod inner
