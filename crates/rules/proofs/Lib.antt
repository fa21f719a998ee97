-- Why the handlers do what the rules say.
pub mod Sides
pub mod Sends
pub mod Meets
pub mod Exists
pub mod Exact
