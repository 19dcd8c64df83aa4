-- `Bytes`: numbers and residual kinds as bytes, and lists of them, written and read.
pub mod Bytes
