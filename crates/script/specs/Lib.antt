-- What the contracts of `script` cite.
pub mod Hex
pub mod Names
pub mod Page
pub mod Text
pub mod Numbers
