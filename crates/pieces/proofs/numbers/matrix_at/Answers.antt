-- The array starts as zeros. Assumes nothing.
use Rattle.std.specs.Float.Ieee.{of_bits}
use Rattle.floats.specs.Numbers.{zeros}
use Rattle.pieces.proofs.numbers.matrix_at.Goals as goal

pub returns : goal.returns
unfolding zeros of_bits
returns c = c.numbers_at.ensures
