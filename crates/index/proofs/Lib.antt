-- What the index says after a word is noted or struck out, and its first word.
pub mod Noted
pub mod FirstWord
