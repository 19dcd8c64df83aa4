-- `Seen` (filters over `Number` in the terms of their floats), `Sizes` and `KindTests` (the tests of numbers and of kinds), `Order` (the order of refusals), `Lines` (a line of the table of calls), `Taken` and `Replies` (one step as the code takes it, and readings), `Setting` (the setters), `Measuring` (a measurement as it is lent),
-- `Parts` (New in parts), `Points` (point k of a list), `Opening` and `Closing` (the calls that open and close), `Room` (the room that a filter takes in memory).
pub mod Seen
pub mod Sizes
pub mod KindTests
pub mod Order
pub mod Lines
pub mod Taken
pub mod Replies
pub mod Setting
pub mod Measuring
pub mod Parts
pub mod Points
pub mod Opening
pub mod Closing
pub mod Room
