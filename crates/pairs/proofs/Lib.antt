-- `Calls`: one step of a pair, as the code of a call takes it.
pub mod Calls
