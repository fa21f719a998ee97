-- Why a search on a settled record is right, and the check that the code makes says the same as the definition.
pub mod Count
pub mod Ordered
pub mod Step
pub mod Search
pub mod Hops
pub mod Left
pub mod Holder
pub mod Check
pub mod Ahead
pub mod LinkTests
pub mod LinkCheck
pub mod Examples
pub mod Agree
