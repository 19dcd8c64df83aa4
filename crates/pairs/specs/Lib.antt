-- `Pairs` (a pair, and one step of it), `NewPair` (New of a pair).
pub mod Pairs
pub mod NewPair
