-- What a skip graph is. Names no byte and no rule.
pub mod Side
pub mod Vector
pub mod Graph
pub mod Constraints
pub mod Components
pub mod inner
