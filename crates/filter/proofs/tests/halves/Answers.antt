-- `tests::halves` meets its contract: a list of four is its four kinds. Assumes nothing.
use mathlib.Core.Path.{◌∙◌}
use native.Mathlib.Omega.{arith}
use Rattle.filter.proofs.KindTests.{four_halves}
use Rattle.filter.proofs.tests.halves.Goals as goal

pub returns : goal.returns
returns g c = g.met.T.Number.floats_law _ ∙ rw (c.half.ensures, c.half-2.ensures, c.half-3.ensures, c.half-4.ensures) (four_halves g.T.Number.same c.args.kinds.now _ _ _ _ (omega arith))
