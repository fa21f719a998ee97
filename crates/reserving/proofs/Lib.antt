-- Why reserving, confirming and giving back do what the definitions say.
pub mod After
pub mod InTwo
