-- Laws of the definitions of specs/.
pub mod Spaces
pub mod Reading
pub mod Commands
pub mod Lines
pub mod Steps
pub mod Decimal
pub mod Joined
pub mod Text
pub mod Examples
