-- `Wrap`: the wrap and its refusals. `Kinds`: residual kinds. `Exact`: what it is that a wrap is exact.
pub mod Wrap
pub mod Kinds
pub mod Exact
