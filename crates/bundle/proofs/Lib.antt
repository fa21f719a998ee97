-- Why a bundle is the deliveries of the definition.
pub mod Tracks
pub mod Ready
pub mod Delivered
pub mod Going
pub mod Determined
