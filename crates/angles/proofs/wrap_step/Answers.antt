-- `wrap_step` meets its contract: each way out returns what the two tests pick of the remainder. Assumes nothing.
use Rattle.std.proofs.Common.{◌≡◌, true, false, refl, ◌∙◌}
use lib.Ieee.{Float, Format, neg, add, sub, rem, lt, le}
use Rattle.angles.specs.Wrap.{wrap_step, brought}
use Rattle.angles.proofs.wrap_step.Goals as goal

module _ (f : Format) (d h : Float) {p r : Float} (twice : p ≡ add f h h) (left : r ≡ rem f d p) where
  picked : brought f h p r ≡ wrap_step f d h
  unfolding wrap_step
  picked = rw (left, twice) refl

  over_h : lt h r ≡ true → sub f r p ≡ wrap_step f d h
  unfolding brought
  over_h a = let e : sub f r p ≡ brought f h p r = rw a refl in e ∙ picked

  under_h : lt h r ≡ false → le r (neg h) ≡ true → add f r p ≡ wrap_step f d h
  unfolding brought
  under_h a b = let e : add f r p ≡ brought f h p r = rw (a, b) refl in e ∙ picked

  as_it_is : lt h r ≡ false → le r (neg h) ≡ false → r ≡ wrap_step f d h
  unfolding brought
  as_it_is a b = let e : r ≡ brought f h p r = rw (a, b) refl in e ∙ picked

pub returns-then-over : goal.returns-then-over
returns-then-over g c =
    let n = g.met.T.Number in
    let law = n.lt_law c.args.h c.remainder-r.result in
    let over : lt (g.T.Number.float c.args.h) (g.T.Number.float c.remainder-r.result) ≡ true = cc in
    n.sub_law _ _ _ c.sub.ensures ∙ over_h _ (g.T.Number.float c.args.d) (g.T.Number.float c.args.h) (n.add_law _ _ _ c.add-p.ensures) c.remainder-r.ensures over

pub returns-then-under : goal.returns-then-under
returns-then-under g c =
    let n = g.met.T.Number in
    let h = g.T.Number.float c.args.h in
    let r = g.T.Number.float c.remainder-r.result in
    let law = n.lt_law c.args.h c.remainder-r.result in
    let other = n.le_law c.remainder-r.result c.neg.result in
    let minus = n.neg_law _ _ c.neg.ensures in
    let over : lt h r ≡ false = cc in
    let under : le r (neg h) ≡ true = cc in
    n.add_law _ _ _ c.add.ensures ∙ under_h _ (g.T.Number.float c.args.d) (g.T.Number.float c.args.h) (n.add_law _ _ _ c.add-p.ensures) c.remainder-r.ensures over under

pub returns : goal.returns
returns g c =
    let n = g.met.T.Number in
    let h = g.T.Number.float c.args.h in
    let r = g.T.Number.float c.remainder-r.result in
    let law = n.lt_law c.args.h c.remainder-r.result in
    let other = n.le_law c.remainder-r.result c.neg.result in
    let minus = n.neg_law _ _ c.neg.ensures in
    let over : lt h r ≡ false = cc in
    let under : le r (neg h) ≡ false = cc in
    as_it_is _ (g.T.Number.float c.args.d) (g.T.Number.float c.args.h) (n.add_law _ _ _ c.add-p.ensures) c.remainder-r.ensures over under
