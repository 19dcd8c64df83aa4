-- `remainder_by` meets its contract: what isn't a number, a divisor that is none, an infinite one, and either sign of d. Assumes nothing.
use Rattle.std.proofs.Common.{◌≡◌, true, false, refl, ap, sym, ◌∙◌}
use lib.Ieee.{Float, Format, nan, div, rem, lt}
use lib.Ieee.Scale.{finite}
use Rattle.floats.specs.Numbers.{plus_zero}
use Rattle.floats.proofs.Finite.{neg_finite}
use Rattle.angles.proofs.Doubling.{Above, rem_of_no_number, rem_by_none, rem_by_infinity, rem_of_negative, rem_of_zero, negative_above}
use Rattle.angles.proofs.remainder_by.Goals as goal

none_is : (f : Format) {x y z : Float} → x ≡ div f y z → y ≡ plus_zero → z ≡ plus_zero → x ≡ nan
unfolding div
none_is f e a b = rw (e, a, b) refl

pub returns-then-not-is_finite : goal.returns-then-not-is_finite
returns-then-not-is_finite g c =
    let n = g.met.T.Number in
    let z = ap g.T.Number.float c.ZERO.ensures ∙ n.zero_law in
    none_is _ (n.div_law _ _ _ c.div-none.ensures) z (ap g.T.Number.float c.ZERO-2.ensures ∙ n.zero_law)
    ∙ rem_of_no_number _ _ _ (sym c.is_finite.ensures ∙ c.if-not-is_finite.true)

pub returns-then-not-lt : goal.returns-then-not-lt
returns-then-not-lt g c =
    let n = g.met.T.Number in
    let law = n.lt_law c.ZERO-3.result c.args.p in
    let zero = n.zero_law in
    let above : lt plus_zero (g.T.Number.float c.args.p) ≡ false = cc in
    none_is _ (n.div_law _ _ _ c.div-none.ensures) (ap g.T.Number.float c.ZERO.ensures ∙ n.zero_law) (ap g.T.Number.float c.ZERO-2.ensures ∙ n.zero_law)
    ∙ rem_by_none _ _ _ c.held-2.ensures (sym c.is_finite.ensures ∙ c.if-not-is_finite.false) above c.requires

pub returns-then-not-is_finite-2 : goal.returns-then-not-is_finite-2
returns-then-not-is_finite-2 g c =
    let n = g.met.T.Number in
    let law = n.lt_law c.ZERO-3.result c.args.p in
    let zero = n.zero_law in
    let above : lt plus_zero (g.T.Number.float c.args.p) ≡ true = cc in
    rem_by_infinity _ _ _ (sym c.is_finite.ensures ∙ c.if-not-is_finite.false) (sym c.is_finite-2.ensures ∙ c.if-not-is_finite-2.true) above

pub rest-requires-clause-size : goal.rest-requires-clause-size
rest-requires-clause-size g c =
    let n = g.met.T.Number in
    let law = n.lt_law c.args.d c.ZERO-4.result in
    let zero = n.zero_law in
    let d = g.T.Number.float c.args.d in
    let under : lt d plus_zero ≡ true = cc in
    let yes = sym c.is_finite.ensures ∙ c.if-not-is_finite.false in
    let e = n.neg_law _ _ c.neg.ensures in
    (ap finite e ∙ neg_finite d ∙ yes, ap (lt plus_zero) e ∙ negative_above _ d c.held.ensures yes under)

pub rest-requires-clause-divisor : goal.rest-requires-clause-divisor
rest-requires-clause-divisor g c =
    let n = g.met.T.Number in
    let law = n.lt_law c.ZERO-3.result c.args.p in
    let zero = n.zero_law in
    let above : lt plus_zero (g.T.Number.float c.args.p) ≡ true = cc in
    (sym c.is_finite-2.ensures ∙ c.if-not-is_finite-2.false, above)

pub returns-then-lt : goal.returns-then-lt
returns-then-lt g c =
    let n = g.met.T.Number in
    let law = n.lt_law c.ZERO-3.result c.args.p in
    let zero = n.zero_law in
    let above : lt plus_zero (g.T.Number.float c.args.p) ≡ true = cc in
    let f = g.T.Number.format in
    let d = g.T.Number.float c.args.d in
    let p = g.T.Number.float c.args.p in
    let b : Above f p = record { holds = c.held-2.ensures; number = sym c.is_finite-2.ensures ∙ c.if-not-is_finite-2.false; above = above } in
    n.neg_law _ _ c.neg-then-lt.ensures
    ∙ rem_of_negative f d p c.held.ensures (sym c.is_finite.ensures ∙ c.if-not-is_finite.false) b _ (c.rest.ensures ∙ ap (λ (x : Float). rem f x p) (n.neg_law _ _ c.neg.ensures))

pub returns : goal.returns
returns g c =
    let n = g.met.T.Number in
    let law = n.lt_law c.ZERO-3.result c.args.p in
    let less = n.lt_law c.args.d c.ZERO-4.result in
    let more = n.lt_law c.ZERO-5.result c.args.d in
    let zero = n.zero_law in
    let f = g.T.Number.format in
    let d = g.T.Number.float c.args.d in
    let p = g.T.Number.float c.args.p in
    let above : lt plus_zero p ≡ true = cc in
    let under : lt d plus_zero ≡ false = cc in
    let over : lt plus_zero d ≡ false = cc in
    let b : Above f p = record { holds = c.held-2.ensures; number = sym c.is_finite-2.ensures ∙ c.if-not-is_finite-2.false; above = above } in
    rem_of_zero f d p c.held.ensures (sym c.is_finite.ensures ∙ c.if-not-is_finite.false) b under over
