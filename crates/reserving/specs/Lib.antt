-- The calls' contracts cite record's specs alone; here is what the calls come to one after the other.
pub mod InTwo
