-- 1 where i = c, else 0.
use Rattle.std.proofs.Common.{ap, ◌∙◌}
use borrow.Author.Tests.{eq-eqb, ne_eqb}
use Rattle.matrix.specs.Inverse.{unit_at}
use Rattle.matrix.proofs.Generic.{one_is}
use Rattle.matrix.proofs.inverse.unit.Goals as goal

pub returns-then-i-c : goal.returns-then-i-c
unfolding unit_at
returns-then-i-c g c = rw (eq-eqb _ _ c.if-i-c.true, one_is) (ap g.T.Number.float c.ONE.ensures ∙ g.met.T.Number.one_law)

pub returns-else-i-c : goal.returns-else-i-c
unfolding unit_at
returns-else-i-c g c = rw (ne_eqb _ _ c.if-i-c.false) (ap g.T.Number.float c.ZERO.ensures ∙ g.met.T.Number.zero_law)
