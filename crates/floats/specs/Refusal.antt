-- The refusals of documents 01 and 02, their numbers and the places that they tell, and what a call or a step comes to. Definitions only.
use Rattle.std.specs.Prelude.{ℕ, Bool, true, cond, eqb}
use Rattle.floats.specs.declared.Slice.{Slice}
use Rattle.floats.specs.declared.Slice.TheVariants.{State, Covariance, Noise, Points, Measurement, Lone}
use Rattle.floats.specs.declared.Verdict.{Verdict}
use Rattle.std.specs.Prelude.{Result}
-- the table: a bad number by its slice and its place there, a bad pivot by its row
use Rattle.floats.specs.declared.Refusal.{Refusal}
use Rattle.floats.specs.declared.Refusal.TheVariants.{Size as SIZE, Short as SHORT, Stage as STAGE, Stale as STALE, Number as NUMBER, Param as PARAM, Pivot as PIVOT, Innovation as INNOV, Range as RANGE, Kind as KIND, Fresh as FRESH, Record as RECORD}
-- refused, which gives nothing; or accepted, with what it gives
pub use Rattle.std.specs.Prelude.{Ok as accepted, Err as refused}

-- a bad number by its slice: state, covariance, noise (Q, R), points, measurement, lone value
abbrev pub slice_number : Slice → ℕ
slice_number State = 51
slice_number Covariance = 52
slice_number Noise = 53
slice_number Points = 54
slice_number Measurement = 55
slice_number Lone = 56

-- a number at place 0
abbrev pub placeless : ℕ → Verdict
placeless k = record { number = k; place = 0 }

-- what a refusal says: its number, and a place, which is 0 but for a bad number and a bad pivot
abbrev pub verdict : Refusal → Verdict
verdict SIZE = placeless 1
verdict SHORT = placeless 2
verdict STAGE = placeless 3
verdict STALE = placeless 4
verdict (NUMBER s i) = record { number = slice_number s; place = i }
verdict PARAM = placeless 6
verdict (PIVOT j) = record { number = 7; place = j }
verdict (INNOV j) = record { number = 8; place = j }
verdict RANGE = placeless 9
verdict KIND = placeless 10
verdict FRESH = placeless 11
verdict RECORD = placeless 12

-- a bad number that stands alone: 56 at 0
abbrev pub bad_lone : Refusal
bad_lone = NUMBER Lone 0

-- 0 means accepted
abbrev pub taken : Verdict
taken = placeless 0

-- of two that are looked for one after the other, the first that refuses; where the first doesn't, what the second says
abbrev pub earlier : Verdict → Verdict → Verdict
earlier a b = cond (eqb a.number 0) b a

-- what a call or a step comes to
abbrev pub Outcome : Type 0 → Type 0
Outcome A = Result A Refusal

module _ {A : Type 0} where
  -- the number and the place
  abbrev pub refusal : Outcome A → Verdict
  refusal (refused r) = verdict r
  refusal (accepted a) = taken

  -- what was accepted, or d
  abbrev pub or : A → Outcome A → A
  or d (refused r) = d
  or d (accepted a) = a

  -- refused by r unless the test holds
  abbrev pub unless : Bool → Refusal → Outcome A → Outcome A
  unless t r o = cond t o (refused r)

  -- once accepted, on to the next
  abbrev pub onward : {B : Type 0} → Outcome A → (A → Outcome B) → Outcome B
  onward (refused r) k = refused r
  onward (accepted a) k = k a

-- accepted, with nothing to give
abbrev pub nothing : Outcome Bool
nothing = accepted true
