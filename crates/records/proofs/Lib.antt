-- `Saved`: save as the code takes it. `Laid`: the parts of a record, written one after the other. `HalfTurns`: the search of its half-turns. `Loaded`: the parts of a record that is read, and load in two parts.
pub mod Saved
pub mod Laid
pub mod HalfTurns
pub mod Loaded
