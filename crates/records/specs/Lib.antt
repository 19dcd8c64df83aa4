-- `Parts`: load in the two parts that the code takes.
pub mod Parts
