-- what isn't finite ends in 9; what is accepted is finite; what stands in each place of the flat mean and spread; the test of a listed result; the room that kinds take
pub mod NotFinite
pub mod Accepted
pub mod Entries
pub mod Generic
pub mod Sizes
