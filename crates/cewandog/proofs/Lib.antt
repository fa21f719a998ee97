-- Why the numbers of the exported calls are those of the public ones.
pub mod Numbers
