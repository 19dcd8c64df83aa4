-- The bits of the constant are an infinity's.
use Rattle.std.proofs.Common.{refl}
use Rattle.std.specs.Float.Ieee.{of_bits}
use Rattle.floats.proofs.number.F32Number.INFINITY.Goals as goal

pub returns : goal.returns
unfolding of_bits
returns c = refl
