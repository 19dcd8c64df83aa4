-- Finite, and above 0.
use Rattle.std.proofs.Common.{sym}
use Rattle.floats.specs.Numbers.{above_zero}
use Rattle.floats.proofs.is_above_zero.Goals as goal

pub returns-then-is_finite : goal.returns-then-is_finite
unfolding above_zero
returns-then-is_finite g c =
    let n = g.met.T.Number in
    rw (sym c.is_finite.ensures, c.if-is_finite.true, c.lt.ensures, n.lt_law, c.ZERO.ensures, n.zero_law)

pub returns-else-is_finite : goal.returns-else-is_finite
unfolding above_zero
returns-else-is_finite g c = rw (sym c.is_finite.ensures, c.if-is_finite.false)
