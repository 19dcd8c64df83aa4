-- The types at floats, what a call asks, filters and their changes, the record of a filter, the table of calls, a measurement as it is lent, one step; New; load; point k of a list.
pub mod Types
pub mod Asked
pub mod Filters
pub mod Records
pub mod Calls
pub mod Measurement
pub mod Steps
pub mod New
pub mod Load
pub mod Point
