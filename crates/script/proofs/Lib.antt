-- Laws that the proofs of `script` cite.
pub mod Cases
pub mod Digits
pub mod Letters
pub mod Lists
pub mod Named
pub mod Pages
pub mod Runs
pub mod Same
pub mod Seen
pub mod Sizes
pub mod Widths
