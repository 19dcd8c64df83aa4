-- The page to read is `Demands`, with `Examples` beside it, and `Flat` for the flat close. `Carried`: the runs and filters of f32 are those of `demands` at binary32, and keep no image.
pub mod Carried
pub mod Demands
pub mod Flat
pub mod Examples
