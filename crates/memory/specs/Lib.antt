-- Numbers and bits in lists of bytes, and what loops over them answer. Names no record and no layout.
pub mod Bytes
pub mod Bits
pub mod inner
