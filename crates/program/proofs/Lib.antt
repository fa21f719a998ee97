-- What the definitions come to.
pub mod Examples
pub mod Texts
pub mod Printed
pub mod Long
pub mod Settled
pub mod Kept
pub mod Pieces
