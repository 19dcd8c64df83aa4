-- `Flat` (where rows and cells stand), `Turns` (the loops), `Generic` (code over `Number`), `Cells` (arrays and matrices place by place), `Roots` (the root's answer taken apart),
-- `Results` (works and plans: the first result that fails decides; the steps of code that follows a plan),
-- `FactorSteps` (the factor's work turn by turn), `FactorLaws` and `InverseLaws` (document 01's equations, read off the finished entries), `FactorRows` (the row of a bad pivot).
pub mod Flat
pub mod Turns
pub mod Generic
pub mod Cells
pub mod Roots
pub mod Results
pub mod Mapped
pub mod FactorSteps
pub mod FactorLaws
pub mod FactorRows
pub mod InverseLaws
