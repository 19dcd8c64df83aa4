-- The numbers before its place have passed, and the first that fails, or the end, decides.
use Rattle.std.proofs.Common.{ℕ, ap, sym, ◌∙◌}
use native.Mathlib.Omega.{arith}
use lib.ListN.{length-take}
use lib.Ieee.Scale.{finite}
use Rattle.floats.proofs.Finite.{passed_none, passed_more, passed_end}
use Rattle.floats.proofs.Search.{bad_at, bad_nowhere}
use Rattle.floats.proofs.Numbers.{floats_long, item_is}
use Rattle.floats.proofs.first_bad.Goals as goal

pub loop-place-init : goal.loop-place-init
loop-place-init g c = passed_none

pub returns-then-not-is_finite : goal.returns-then-not-is_finite
returns-then-not-is_finite g c =
    let law = g.met.T.Number.floats_law in
    ap (λ (n : ℕ). record { number = n; place = c.loop-place.place }) c.slice_number-number.ensures
    ∙ bad_at _ _ c.loop-place.place c.args.k (omega (arith, floats_long law c.args.s.now, length-take c.min.result c.args.s.now)) (omega (arith, length-take c.min.result c.args.s.now)) c.loop-place.invariant.is
    (ap finite (sym (item_is law _ _ _ _ c.loop-place-test.true c.x-item.is)) ∙ sym c.is_finite.ensures ∙ c.if-not-is_finite.true)

pub loop-place-preserved : goal.loop-place-preserved
loop-place-preserved g c =
    let law = g.met.T.Number.floats_law in
    passed_more c.loop-place.invariant (omega (arith, floats_long law c.args.s.now, length-take c.min.result c.args.s.now))
    (ap finite (sym (item_is law _ _ _ _ c.loop-place-test.true c.x-item.is)) ∙ sym c.is_finite.ensures ∙ c.if-not-is_finite.false)

pub returns : goal.returns
returns g c =
    let law = g.met.T.Number.floats_law in
    c.placeless.ensures ∙ bad_nowhere _ _ (passed_end c.loop-place.invariant c.args.k (omega (arith, floats_long law c.args.s.now, length-take c.min.result c.args.s.now)) (omega (arith, floats_long law c.args.s.now, length-take c.min.result c.args.s.now)))
