-- Laws that the proofs of `words` cite.
pub mod Bits
pub mod Digits
