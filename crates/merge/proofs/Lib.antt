-- Why a merge is right.
pub mod After
