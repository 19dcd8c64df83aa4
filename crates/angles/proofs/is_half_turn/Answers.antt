-- `is_half_turn` meets its contract: by the two tests. Assumes nothing.
use Rattle.std.proofs.Common.{◌≡◌, true, false, ap, ◌∙◌}
use lib.Ieee.{lt}
use lib.Ieee.Scale.{finite}
use Rattle.floats.specs.Numbers.{plus_zero}
use Rattle.angles.specs.Wrap.{half_turn}
use Rattle.angles.proofs.is_half_turn.Goals as goal

pub returns-then-lt : goal.returns-then-lt
unfolding half_turn
returns-then-lt g c =
    let n = g.met.T.Number in
    let law = n.lt_law c.ZERO.result c.args.h in
    let zero = n.zero_law in
    let above : lt plus_zero (g.T.Number.float c.args.h) ≡ true = cc in
    rw above (c.is_finite.ensures ∙ ap finite (n.add_law _ _ _ c.add.ensures))

pub returns-else-lt : goal.returns-else-lt
unfolding half_turn
returns-else-lt g c =
    let n = g.met.T.Number in
    let law = n.lt_law c.ZERO.result c.args.h in
    let zero = n.zero_law in
    let above : lt plus_zero (g.T.Number.float c.args.h) ≡ false = cc in
    rw above c.if-lt.false
