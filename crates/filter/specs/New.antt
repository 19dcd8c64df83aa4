-- New: a filter from n, x, P, Q and the parameters, a track on a sheet; refused, the empty filter. Each part is asked for by itself, and several tracks may stand on one sheet. Definitions only.
use Rattle.std.specs.Prelude.{ℕ, ◌*◌, true, false, cond, eqb, take, replicate, Float}
use mathlib.Core.List.{List, [], ◌∷◌, ◌++◌}
use Rattle.std.specs.Float.{Format}
use Rattle.floats.specs.declared.Slice.TheVariants.{State, Covariance, Noise, Lone}
use Rattle.floats.specs.declared.Verdict.{Verdict}
use Rattle.floats.specs.Refusal.{earlier, Outcome, accepted, refusal, or}
use Rattle.floats.specs.Search.{Input, input}
use Rattle.floats.specs.Numbers.{plus_zero, zeros}
use Rattle.floats.specs.Fronts.{front}
use Rattle.angles.specs.Kinds.{plain}
use Rattle.sigma.specs.Weights.{Params}
use Rattle.filter.specs.declared.Stage.TheVariants.{Shut}
use Rattle.filter.specs.Types.{Sheet}
use Rattle.filter.specs.Types.{Track}
use Rattle.filter.specs.Types.{Filter}
use Rattle.filter.specs.Types.{Answer}
use Rattle.filter.specs.Types.{NewSheet}
use Rattle.filter.specs.Types.{NewTrack}
use Rattle.filter.specs.Asked.{Lent, by_params, Asks, guarded}
use Rattle.filter.specs.Filters.{sheet, track, filter, nothing_kept}
use Rattle.filter.specs.Calls.{lend, values_of, line}

-- all kinds plain
abbrev pub fresh_sheet : ℕ → List Float → Params → Sheet
fresh_sheet n q params = sheet n q params (replicate 8 plain)

-- stale, nothing open; points, weights and scratch at +0
abbrev pub fresh_track : List Float → List Float → Track
fresh_track x p = track x p (zeros 17) (zeros 136) true Shut (zeros 17) (zeros 136) nothing_kept

-- n = 0, every number +0, stale, nothing open
abbrev pub empty_params : Params
empty_params = record { alpha = plus_zero; beta = plus_zero; kappa = plus_zero }

abbrev pub empty_sheet : Sheet
empty_sheet = fresh_sheet 0 (zeros 64) empty_params

abbrev pub empty_track : Track
empty_track = fresh_track (zeros 8) (zeros 64)

abbrev pub empty : Filter
empty = filter empty_sheet empty_track

-- a filter with number and place; refused, the empty one
abbrev pub refused_answer : Verdict → Answer
refused_answer v = record { filter = empty; refusal = v }

abbrev pub answer_of : Outcome Filter → Answer
answer_of o = record { filter = or empty o; refusal = refusal o }

-- ---- what is asked

-- what a track starts from, as lent: a state and its covariance
pub record Start : Type 0 where
  pub x : List Float
  pub p : List Float

abbrev pub from : List Float → List Float → Start
from x p = record { x = x; p = p }

-- what is lent, and what is searched: each start's x and P in turn, then Q and the parameters
abbrev pub lent_at : ℕ → Start → List Lent
lent_at n s = lend s.x n ++ lend s.p (n * n)

abbrev pub lent_for : ℕ → List Start → List Float → List Lent
lent_for n [] q = lend q (n * n)
lent_for n (s ∷ ss) q = lent_at n s ++ lent_for n ss q

abbrev pub inputs_at : ℕ → Start → List Input
inputs_at n s = input State (take n s.x) ++ input Covariance (take (n * n) s.p)

abbrev pub inputs_for : ℕ → List Start → List Float → Params → List Input
inputs_for n [] q params = input Noise (take (n * n) q) ++ input Lone (values_of params)
inputs_for n (s ∷ ss) q params = inputs_at n s ++ inputs_for n ss q params

-- of tracks of n states at these starts on one sheet; of one start alone
abbrev pub new_asks : ℕ → List Start → List Float → Params → Asks
new_asks n starts q params = line true n [] (lent_for n starts q) false (inputs_for n starts q params) (by_params n params ∷ [])

abbrev pub start_asks : ℕ → Start → Asks
start_asks n s = line true n [] (lent_at n s) false (inputs_at n s) []

-- ---- what is made

abbrev pub sheet_from : ℕ → List Float → Params → Sheet
sheet_from n q params = fresh_sheet n (front (n * n) q (zeros 64)) params

abbrev pub track_from : ℕ → Start → Track
track_from n s = fresh_track (front n s.x (zeros 8)) (front (n * n) s.p (zeros 64))

module _ (f : Format) (n : ℕ) where
  unfoldable pub new_sheet_of : List Float → Params → Outcome Sheet
  unfolding guarded
  new_sheet_of q params = guarded f (new_asks n [] q params) (accepted (sheet_from n q params))

  abbrev pub new_sheet : List Float → Params → NewSheet
  new_sheet q params = record { refusal = refusal (new_sheet_of q params); sheet = or empty_sheet (new_sheet_of q params) }

  unfoldable pub new_track_of : Start → Outcome Track
  unfolding guarded
  new_track_of s = guarded f (start_asks n s) (accepted (track_from n s))

  abbrev pub new_track : Start → NewTrack
  new_track s = record { refusal = refusal (new_track_of s); track = or empty_track (new_track_of s) }

  unfoldable pub new_of : List Float → List Float → List Float → Params → Outcome Filter
  unfolding guarded
  new_of x p q params = guarded f (new_asks n (from x p ∷ []) q params) (accepted (filter (sheet_from n q params) (track_from n (from x p))))

  abbrev pub new_answer : List Float → List Float → List Float → Params → Answer
  new_answer x p q params = answer_of (new_of x p q params)

-- what a New says of two of its parts, which have one n, the sheet being the last of them: a slice of the later that is too short comes before a bad number of the earlier, else the earlier part comes first
unfoldable pub sooner : Verdict → Verdict → Verdict
sooner a b = cond (eqb b.number 2) b (earlier a b)
