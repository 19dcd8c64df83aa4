-- A step of an f32 filter, its runs and what they tell, calls struck out, and the filters that the demands speak of: as specs/Runs.antt and specs/Sound.antt of `demands` have them, at binary32, with the calls of the f32 filter (Calls.antt) in place of those; none is read from a record. Definitions only.
use Rattle.std.specs.Prelude.{ℕ, ◌≡◌, true, false, List, [], ◌∷◌, ◌++◌, Float}
use Rattle.std.specs.Float.{binary32}
use Rattle.filter.specs.Filters.{is_shut}
use Rattle.filter.specs.Types.{Filter, Answer}
use Rattle.filter.specs.Calls as calls
use Rattle.filter.specs.Steps.{Stepped, step}
use Rattle.filter.specs.New.{new_answer}
use Rattle.sigma.specs.Weights.{Params}
use Rattle.demands.specs.Runs.{Told, tells, Alike}
use Rattle.demands32.specs.Calls.{Call, abandon, as_call}

-- the step of a call, and New, at binary32
abbrev pub step32 : Filter → Call → Stepped
step32 s c = step binary32 s (as_call c)

abbrev pub new32 : ℕ → List Float → List Float → List Float → Params → Answer
new32 n x p q params = new_answer binary32 n x p q params

-- what a call tells
unfoldable pub told : Filter → List Call → List Told
unfolding step
told s [] = []
told s (c ∷ cs) = tells (step32 s c) ∷ told (step32 s c).filter cs

-- the filter after a run
unfoldable pub ran_to : Filter → List Call → Filter
unfolding step
ran_to s [] = s
ran_to s (c ∷ cs) = ran_to (step32 s c).filter cs

-- s has a call open, and still has one after each of the calls
abbrev pub StaysOpen : Filter → List Call → Type 0
StaysOpen s [] = is_shut s.track.stage ≡ false
StaysOpen s (c ∷ cs) = (is_shut s.track.stage ≡ false) × StaysOpen (step32 s c).filter cs

-- the second list is the first with some refused calls, and some opens with everything up to their abandon, struck out; the filter is the one that the first list is run on
pub data Struck : Filter → List Call → List Call → Type 0 where
  none_left : {s : Filter} → Struck s [] []
  call_kept : {s : Filter} {c : Call} {cs ds : List Call} → Struck (step32 s c).filter cs ds → Struck s (c ∷ cs) (c ∷ ds)
  refused_struck : {s : Filter} {c : Call} {cs ds : List Call} → ((step32 s c).reply.refusal.number ≡ 0 → ⊥) → Struck (step32 s c).filter cs ds → Struck s (c ∷ cs) ds
  opening_struck :
      {s : Filter} (c : Call) (mid : List Call) {cs ds : List Call} → is_shut s.track.stage ≡ true → StaysOpen (step32 s c).filter mid
      → Struck (ran_to s (c ∷ mid ++ (abandon ∷ []))) cs ds → Struck s ((c ∷ mid ++ (abandon ∷ [])) ++ cs) ds

-- what the run of the first list tells at the calls that are not struck
unfoldable pub rest : {s : Filter} {cs ds : List Call} → Struck s cs ds → List Told
rest none_left = []
rest (call_kept {s = s} {c = c} k) = tells (step32 s c) ∷ rest k
rest (refused_struck r k) = rest k
rest (opening_struck c mid sh st k) = rest k

-- the filters that New and later calls yield
pub data Reached : Filter → Type 0 where
  made : (n : ℕ) (x p q : List Float) (params : Params) → Reached (new32 n x p q params).filter
  further : {s : Filter} → Reached s → (c : Call) → Reached (step32 s c).filter

-- the filters that the demands speak of: those, and such filters, stale and with no call open, with points, weights and scratch put at will
pub data Yielded : Filter → Type 0 where
  fresh_made : (n : ℕ) (x p q : List Float) (params : Params) → Yielded (new32 n x p q params).filter
  stepped_on : {s : Filter} → Yielded s → (c : Call) → Yielded (step32 s c).filter
  put_at_will : {s : Filter} (t : Filter) → Yielded s → Alike s t → Yielded t

-- the filters that New, these calls and the flat close reach
pub data FlatReached : Filter → Type 0 where
  first_reached : {s : Filter} → Reached s → FlatReached s
  called : {s : Filter} → FlatReached s → (c : Call) → FlatReached (step32 s c).filter
  closed_flat : {s : Filter} → FlatReached s → (m : ℕ) (z r observed : List Float) → FlatReached (step binary32 s (calls.closing (calls.close_correction_flat m z r observed))).filter
