-- `Calls`: the calls of the f32 filter. `Runs`: a step of an f32 filter, its runs, and what the demands speak of.
pub mod Calls
pub mod Runs
