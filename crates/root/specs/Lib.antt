-- `Definition`: the root over the format. `Nearest`: what IEEE 754 asks of a root, in whole numbers. `Answer`: what `square_root` answers.
pub mod Definition
pub mod Nearest
pub mod Answer
