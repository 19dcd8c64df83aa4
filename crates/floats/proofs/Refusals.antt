-- Laws of outcomes and what they say (specs/Refusal.antt): a refusal's number is not 0, so it tells a refused one from an accepted one; number and place give the refusal back; then the earlier of two. Assumes nothing.
use Prim.Native.Nat.{ℕ, ◌<◌}
use mathlib.Core.Path.{◌≡◌, refl, sym, ap, ◌∙◌}
use mathlib.Core.Bool.{Bool, true, false, cond}
use mathlib.Core.Logic.{◌≢◌, ◌⊎◌, inl, inr}
use native.Mathlib.Omega.{arith}
use borrow.Author.Tests.{eq-eqb, ne_eqb}
use lib.Dec.{eqb}
use Rattle.floats.specs.declared.Slice.{Slice}
use Rattle.floats.specs.declared.Slice.TheVariants.{State, Covariance, Noise, Points, Measurement, Lone}
use Rattle.floats.specs.declared.Verdict.{Verdict}
use Rattle.floats.specs.declared.Refusal.{Refusal}
use Rattle.floats.specs.declared.Refusal.TheVariants.{Size as SIZE, Short as SHORT, Stage as STAGE, Stale as STALE, Number as NUMBER, Param as PARAM, Pivot as PIVOT, Innovation as INNOV, Range as RANGE, Kind as KIND, Fresh as FRESH, Record as RECORD}
use Rattle.floats.specs.Refusal.{slice_number, verdict, earlier, Outcome, refused, accepted, refusal, or, unless, onward}

abbrev pub number : Refusal → ℕ
number r = (verdict r).number

pub number_of : {v w : Verdict} → v ≡ w → v.number ≡ w.number
number_of e = ap (λ (v : Verdict). v.number) e

pub slice_above : (s : Slice) → 50 < slice_number s
slice_above State = omega arith
slice_above Covariance = omega arith
slice_above Noise = omega arith
slice_above Points = omega arith
slice_above Measurement = omega arith
slice_above Lone = omega arith

-- no refusal has the number 0
pub number_above : (r : Refusal) → 0 < number r
number_above SIZE = omega arith
number_above SHORT = omega arith
number_above STAGE = omega arith
number_above STALE = omega arith
number_above (NUMBER s i) = omega (arith, slice_above s)
number_above PARAM = omega arith
number_above (PIVOT i) = omega arith
number_above (INNOV i) = omega arith
number_above RANGE = omega arith
number_above KIND = omega arith
number_above FRESH = omega arith
number_above RECORD = omega arith

-- number and place give the refusal back
unfoldable pub named : Verdict → Refusal
named v =
    cond (eqb v.number 1) SIZE
    (cond (eqb v.number 2) SHORT
    (cond (eqb v.number 3) STAGE
    (cond (eqb v.number 4) STALE
    (cond (eqb v.number 6) PARAM
    (cond (eqb v.number 7) (PIVOT v.place)
    (cond (eqb v.number 8) (INNOV v.place)
    (cond (eqb v.number 9) RANGE
    (cond (eqb v.number 10) KIND
    (cond (eqb v.number 11) FRESH
    (cond (eqb v.number 12) RECORD
    (cond (eqb v.number 51) (NUMBER State v.place)
    (cond (eqb v.number 52) (NUMBER Covariance v.place)
    (cond (eqb v.number 53) (NUMBER Noise v.place)
    (cond (eqb v.number 54) (NUMBER Points v.place)
    (cond (eqb v.number 55) (NUMBER Measurement v.place)
    (NUMBER Lone v.place))))))))))))))))

named_verdict : (r : Refusal) → named (verdict r) ≡ r
unfolding named
named_verdict SIZE = refl
named_verdict SHORT = refl
named_verdict STAGE = refl
named_verdict STALE = refl
named_verdict PARAM = refl
named_verdict (PIVOT j) = refl
named_verdict (INNOV j) = refl
named_verdict RANGE = refl
named_verdict KIND = refl
named_verdict FRESH = refl
named_verdict RECORD = refl
named_verdict (NUMBER State i) = refl
named_verdict (NUMBER Covariance i) = refl
named_verdict (NUMBER Noise i) = refl
named_verdict (NUMBER Points i) = refl
named_verdict (NUMBER Measurement i) = refl
named_verdict (NUMBER Lone i) = refl

pub verdict_same : {q r : Refusal} → verdict q ≡ verdict r → q ≡ r
verdict_same {q} {r} e = sym (named_verdict q) ∙ ap named e ∙ named_verdict r

-- so does its number, but for the place
pub by_number : (r : Refusal) {k : ℕ} → number r ≡ k → r ≡ named (record { number = k; place = (verdict r).place })
by_number r e = sym (named_verdict r) ∙ ap (λ (k : ℕ). named (record { number = k; place = (verdict r).place })) e

module _ {A : Type 0} where
  pub refused_never : {r : Refusal} {a : A} → refused r ≡ accepted a → ⊥
  refused_never e = let x : ◌≡◌ {A = ℕ} 0 1 = cc in omega arith

  -- a step that gave 0 was accepted, and one that gave another number was refused by it
  pub gave_zero : (o : Outcome A) (d : A) → (refusal o).number ≡ 0 → o ≡ accepted (or d o)
  gave_zero (refused r) d e = absurd (omega (arith, number_above r))
  gave_zero (accepted a) d e = refl

  pub gave_number : (o : Outcome A) → (refusal o).number ≢ 0 → (r : Refusal) × (o ≡ refused r) × (refusal o ≡ verdict r)
  gave_number (refused r) h = (r, refl, refl)
  gave_number (accepted a) h = absurd (h refl)

  pub onward_same : {B : Type 0} (o : Outcome A) (k h : A → Outcome B) → ((a : A) → k a ≡ h a) → onward o k ≡ onward o h
  onward_same (refused r) k h e = refl
  onward_same (accepted a) k h e = e a

  pub onward_unless : {B : Type 0} (t : Bool) (r : Refusal) (o : Outcome A) (k : A → Outcome B) → onward (unless t r o) k ≡ unless t r (onward o k)
  onward_unless true r o k = refl
  onward_unless false r o k = refl

  -- a work that was accepted did not stop here; one that was refused stopped here or went on
  pub passed : (t : Bool) (r : Refusal) (o : Outcome A) (a : A) → unless t r o ≡ accepted a → (t ≡ true) × (o ≡ accepted a)
  passed true r o a e = (refl, e)
  passed false r o a e = absurd (refused_never e)

  pub failed : (t : Bool) (q r : Refusal) (o : Outcome A) → unless t q o ≡ refused r → ((t ≡ false) × (q ≡ r)) ⊎ ((t ≡ true) × (o ≡ refused r))
  failed true q r o e = inr (refl, e)
  failed false q r o e = inl (refl, cc)

-- ---- one after the other

pub earlier_first : (a b : Verdict) → (a.number ≡ 0 → ⊥) → earlier a b ≡ a
earlier_first a b h = rw (ne_eqb a.number 0 h)

pub earlier_second : (a b : Verdict) → a.number ≡ 0 → earlier a b ≡ b
earlier_second a b h = rw (eq-eqb a.number 0 h)

pub earlier_refused : (r : Refusal) (b : Verdict) → earlier (verdict r) b ≡ verdict r
earlier_refused r b = earlier_first (verdict r) b (λ (z : number r ≡ 0). omega (arith, number_above r))

pub earlier_onward : {A B : Type 0} (o : Outcome A) (p : Outcome B) → refusal (onward o (λ (a : A). p)) ≡ earlier (refusal o) (refusal p)
earlier_onward (refused r) p = sym (earlier_refused r (refusal p))
earlier_onward (accepted a) p = refl
