-- Why lines do what the definitions say.
pub mod Arms
