-- Why the steps of a crash are right.
pub mod Introducing
pub mod Accepted
pub mod Nobody
