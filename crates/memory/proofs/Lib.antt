-- Laws of the definitions of specs/.
pub mod Bytes
pub mod Digits
pub mod Bits
pub mod Packed
pub mod Bitmap
pub mod Zeros
pub mod Fulls
pub mod MachineCounts
pub mod Words
pub mod FirstSet
pub mod Search
pub mod Examples
pub mod Conversions
pub mod Runs
