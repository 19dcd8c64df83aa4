-- What lies strictly between the two infinities is finite.
use Rattle.std.proofs.Common.{ap, ◌∙◌}
use lib.Ieee.{neg}
use Rattle.floats.proofs.Numbers.{above_none, between}
use Rattle.floats.proofs.is_finite.Goals as goal

pub returns-then-lt : goal.returns-then-lt
returns-then-lt g c =
    let n = g.met.T.Number in
    between _ (n.neg_law _ _ c.neg.ensures ∙ ap neg (ap g.T.Number.float c.INFINITY.ensures ∙ n.infinity_law)) (ap g.T.Number.float c.INFINITY-then-lt.ensures ∙ n.infinity_law) (c.lt.ensures ∙ n.lt_law _ _) c.if-lt.true (c.lt-then-lt.ensures ∙ n.lt_law _ _)

pub returns-else-lt : goal.returns-else-lt
returns-else-lt g c =
    let n = g.met.T.Number in
    above_none _ (n.neg_law _ _ c.neg.ensures ∙ ap neg (ap g.T.Number.float c.INFINITY.ensures ∙ n.infinity_law)) (c.lt.ensures ∙ n.lt_law _ _) c.if-lt.false
