-- The lists of a skip graph as they are printed. Names no byte of a record.
pub mod Lists
pub mod Text
pub mod Whole
