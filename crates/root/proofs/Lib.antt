-- Laws over every format: `Squares` (whole numbers and their squares), `Judged` (which whole number is nearest to a root, by squares, and by the halves in which binary64's are multiplied), `Digits` (the recurrence that finds a root's digits),
-- `Scaled` (what `root_units` is, and the bits that stand for it),
-- `Values` (`root_of` and `rooted` by a value's number, and by its bits), `Gaps` (no value lies between a root's two neighbours),
-- `Laws` (no value of the format is nearer to the root than `root_of`, and nothing else is as near). `Ways`: what the bits tell on each way through the code. `Answers`: what a reader and a caller want. `Generic`: an outcome at a width, seen as one of floats.
pub mod Squares
pub mod Judged
pub mod Digits
pub mod Scaled
pub mod Values
pub mod Gaps
pub mod Laws
pub mod Ways
pub mod Answers
pub mod Generic
