-- Why the definitions of specs/ say what they should: order, shared bits, neighbours, and the two theorems on skip graphs.
pub mod Order
pub mod Below
pub mod Shared
pub mod Laws
pub mod Neighbour
pub mod Walk
pub mod Levels
pub mod SkipGraph
pub mod Components
pub mod Labels
pub mod Leading
pub mod Examples
