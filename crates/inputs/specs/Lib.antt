-- Every input of the program is a list of calls: demand 3 speaks of the record after it.
pub mod Made
