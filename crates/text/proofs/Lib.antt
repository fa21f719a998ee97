-- Text after text in a lent buffer.
pub mod Put
pub mod Written
