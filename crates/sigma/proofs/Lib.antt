-- the room that arrays take, and what stands in each of their places
pub mod Flat
pub mod Entries
-- code that follows a plan
pub mod Plans
-- a difference that isn't finite ends in 9; what is accepted is finite
pub mod NotFinite
pub mod Accepted
-- code over `Number` in the terms of its floats
pub mod Generic
