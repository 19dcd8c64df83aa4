-- `Sizes`: the wrap over whole numbers of units. `Exact`: the wrap is exact, also through a kind, and what isn't finite comes out so. `Doubling`: the remainder by doubling the divisor. `StepLaws` and `Laws`: twice is once, the wrap of −d, everything times a power of two; of the step's lines and of the outcome. `SeenKinds`: kinds and lists of them over `Number`.
pub mod Sizes
pub mod Exact
pub mod Doubling
pub mod StepLaws
pub mod Laws
pub mod SeenKinds
