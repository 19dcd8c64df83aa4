-- `Refusal`: the refusals and what a call comes to. `Search`: the search of the numbers that come in. `Numbers` and `Fronts`: numbers and lists of them. `Tests`: a test of every element. `Units`: a value as a whole number of units. `Powers`: a value times a power of two. `Compared`: comparisons.
pub mod Refusal
pub mod Search
pub mod Numbers
pub mod Fronts
pub mod Tests
pub mod Units
pub mod Powers
pub mod Compared
