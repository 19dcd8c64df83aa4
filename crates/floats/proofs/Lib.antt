-- `Refusals`: outcomes, their numbers and places. `Search`: the search of the numbers that come in. `Tests`: two tests, and every element tested. `Finite` and `Fronts`: lists of numbers. `Units`, `Grid` and `Powers`: exactness over the format.
pub mod Refusals
pub mod Search
pub mod Tests
pub mod Finite
pub mod Fronts
pub mod Numbers
pub mod Units
pub mod Grid
pub mod Powers
