-- `remainder` meets its contract: the sign of p doesn't tell. Assumes nothing.
use Rattle.std.proofs.Common.{◌≡◌, true, ap, ◌∙◌}
use lib.Ieee.{Float, rem, lt}
use Rattle.floats.specs.Numbers.{plus_zero}
use Rattle.angles.proofs.Doubling.{rem_of_size, negative_not_below}
use Rattle.angles.proofs.remainder.Goals as goal

pub remainder_by-requires : goal.remainder_by-requires
remainder_by-requires g c =
    let n = g.met.T.Number in
    let law = n.lt_law c.args.p c.ZERO.result in
    let zero = n.zero_law in
    let p = g.T.Number.float c.args.p in
    let under : lt p plus_zero ≡ true = cc in
    ap (λ (x : Float). lt x plus_zero) (n.neg_law _ _ c.neg.ensures) ∙ negative_not_below _ p c.held.ensures under

pub returns-then-lt : goal.returns-then-lt
returns-then-lt g c =
    let n = g.met.T.Number in
    let d = g.T.Number.float c.args.d in
    c.remainder_by.ensures ∙ ap (rem g.T.Number.format d) (n.neg_law _ _ c.neg.ensures) ∙ rem_of_size _ d _
