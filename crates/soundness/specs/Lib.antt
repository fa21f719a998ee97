-- What the functions of the soundness test hand to each other. The test itself is record's specs/Sound.antt.
pub mod inner
