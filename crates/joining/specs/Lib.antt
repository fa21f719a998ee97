-- Join and leave: their contracts cite record's specs/Call.antt. What is here is for inner contracts alone.
pub mod inner
