-- `Folds`: sums and arrays. `Results`: works and plans of checked results. `Sums`, `Factor`, `Inverse`, `Product`: the matrix leaves. `Factored`: what a factor's entries satisfy.
pub mod Folds
pub mod Results
pub mod Sums
pub mod Factor
pub mod Factored
pub mod Inverse
pub mod Product
