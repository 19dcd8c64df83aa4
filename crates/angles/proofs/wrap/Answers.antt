-- `wrap` meets its contract: the tests on the way to each answer are those of the definition. Assumes nothing.
use Rattle.std.proofs.Common.{◌≡◌, Bool, true, false, [], ◌∷◌, refl, ap, sym, ◌∙◌}
use mathlib.Core.Bool.{◌&&◌}
use lib.Ieee.{Float, Format}
use lib.Ieee.Scale.{finite}
use Rattle.floats.specs.declared.Refusal.TheVariants.{Param as PARAM}
use Rattle.floats.specs.Refusal.{bad_lone, accepted, refused}
use Rattle.floats.specs.Numbers.{all_finite}
use Rattle.angles.specs.Wrap.{wrap_step, half_turn, wrap_of}
use Rattle.angles.proofs.SeenKinds.{accepted_seen, refused_seen}
use Rattle.angles.proofs.wrap.Goals as goal
use Rattle.angles.proofs.wrap.Goals.{then-is_finite, else-is_finite}

-- the two numbers, tested one after the other
module _ (d h : Float) {numbers : Bool} where
  first_passed : finite d ≡ true → numbers ≡ finite h → numbers ≡ all_finite (d ∷ h ∷ [])
  unfolding all_finite
  first_passed e k = rw (k, e) (last (finite h))
    where
      last : (b : Bool) → b ≡ (b && true)
      last true = refl
      last false = refl

  first_failed : finite d ≡ false → numbers ≡ false → numbers ≡ all_finite (d ∷ h ∷ [])
  unfolding all_finite
  first_failed e k = rw (k, e) refl

module _ (f : Format) (d h : Float) where
  of_no_number : all_finite (d ∷ h ∷ []) ≡ false → refused bad_lone ≡ wrap_of f d h
  unfolding wrap_of
  of_no_number e = rw e refl

  of_no_turn : all_finite (d ∷ h ∷ []) ≡ true → half_turn f h ≡ false → refused PARAM ≡ wrap_of f d h
  unfolding wrap_of
  of_no_turn e k = rw (e, k) refl

  of_numbers : all_finite (d ∷ h ∷ []) ≡ true → half_turn f h ≡ true → accepted (wrap_step f d h) ≡ wrap_of f d h
  unfolding wrap_of
  of_numbers e k = rw (e, k) refl

pub returns-then-not-numbers : goal.returns-then-not-numbers
returns-then-not-numbers g c =
    let d = g.T.Number.float c.args.d in
    let h = g.T.Number.float c.args.h in
    let pair : c.if-is_finite.numbers ≡ all_finite (d ∷ h ∷ []) =
    elim c.if-is_finite.branch [
      | then-is_finite w ↦ first_passed d h (sym c.is_finite.ensures ∙ w.if-is_finite.true) (w.numbers-is ∙ w.is_finite-numbers.ensures)
      | else-is_finite w ↦ first_failed d h (sym c.is_finite.ensures ∙ w.if-is_finite.false) (w.numbers-is ∙ w.if-is_finite.false)
    ] in refused_seen g.T.Number.same bad_lone ∙ of_no_number g.T.Number.format d h (sym pair ∙ c.if-not-numbers.true)

pub returns-then-not-is_half_turn : goal.returns-then-not-is_half_turn
returns-then-not-is_half_turn g c =
    let d = g.T.Number.float c.args.d in
    let h = g.T.Number.float c.args.h in
    let pair : c.if-is_finite.numbers ≡ all_finite (d ∷ h ∷ []) =
    elim c.if-is_finite.branch [
      | then-is_finite w ↦ first_passed d h (sym c.is_finite.ensures ∙ w.if-is_finite.true) (w.numbers-is ∙ w.is_finite-numbers.ensures)
      | else-is_finite w ↦ first_failed d h (sym c.is_finite.ensures ∙ w.if-is_finite.false) (w.numbers-is ∙ w.if-is_finite.false)
    ] in
    refused_seen g.T.Number.same PARAM ∙ of_no_turn g.T.Number.format d h (sym pair ∙ c.if-not-numbers.false) (sym c.is_half_turn.ensures ∙ c.if-not-is_half_turn.true)

pub returns : goal.returns
returns g c =
    let n = g.met.T.Number in
    let d = g.T.Number.float c.args.d in
    let h = g.T.Number.float c.args.h in
    let pair : c.if-is_finite.numbers ≡ all_finite (d ∷ h ∷ []) =
    elim c.if-is_finite.branch [
      | then-is_finite w ↦ first_passed d h (sym c.is_finite.ensures ∙ w.if-is_finite.true) (w.numbers-is ∙ w.is_finite-numbers.ensures)
      | else-is_finite w ↦ first_failed d h (sym c.is_finite.ensures ∙ w.if-is_finite.false) (w.numbers-is ∙ w.if-is_finite.false)
    ] in
    accepted_seen g.T.Number.same c.wrap_step.result ∙ ap accepted (sym (n.float_law _) ∙ c.wrap_step.ensures)
    ∙ of_numbers g.T.Number.format d h (sym pair ∙ c.if-not-numbers.false) (sym c.is_half_turn.ensures ∙ c.if-not-is_half_turn.false)
