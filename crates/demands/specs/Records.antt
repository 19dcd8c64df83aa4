-- Document 02, A8: what a filter that is saved has, when a save reaches 11, what bytes read as and what is no record, in the request's words. Save and load are the f64 filter's alone. Definitions only.
use Rattle.std.specs.Prelude.{ℕ, ◌+◌, ◌*◌, ◌≤◌, ◌≡◌, true, List, ◌⊎◌, ◌≢◌, length, take, drop, get_or, replicate, Float}
use Rattle.std.specs.Float.{binary64}
use Rattle.std.specs.Float.Ieee.{fits}
use Rattle.floats.specs.Numbers.{zeros}
use Rattle.floats.specs.Fronts.{over}
use Rattle.angles.specs.Kinds.{plain}
use Rattle.angles.specs.Kinds.{Kind}
use Rattle.pieces.specs.Bytes.{number_at, kind_at, read_each, kind_fits}
use Rattle.sigma.specs.Weights.{Params}
use Rattle.filter.specs.Types.{Filter}
use Rattle.filter.specs.Asked.{every}
use Rattle.filter.specs.Filters.{is_shut, filter}
use Rattle.filter.specs.Calls.{Call, writing, setting, stepping, closing, closing_stepped, abandon, reading, SheetCall, set_q, set_params, set_kind, SetCall, set_x, set_p, open_prediction, open_correction, open_prediction_stepped, open_correction_stepped, values_of}
use Rattle.filter.specs.Steps.{step}
use Rattle.filter.specs.New.{fresh_track, new_answer}
use Rattle.filter.specs.Load.{load_answer}
use Rattle.pairs.specs.declared.Pair.{Pair}
use Rattle.pairs.specs.declared.Side.{Side}
use Rattle.pairs.specs.Pairs.{track_at, pair_step}
use Rattle.pairs.specs.NewPair.{new_pair_answer}
use Rattle.demands.specs.Rows.{Some}
use Rattle.demands.specs.Runs.{Alike}
use Rattle.demands.specs.PairSound.{AtWill}

-- ---- numbers of an f64

-- values that an f64 has
abbrev pub Fit : List Float → Type 0
Fit l = every (fits binary64) l ≡ true

abbrev pub FitKinds : List Kind → Type 0
FitKinds l = every kind_fits l ≡ true

-- of a filter, those of its sheet, its state and its covariance
pub record Storable (s : Filter) : Type 0 where
  pub x : Fit s.track.x
  pub p : Fit s.track.p
  pub q : Fit s.sheet.q
  pub params : Fit (values_of s.sheet.params)
  pub kinds : FitKinds s.sheet.kinds

-- those that a call sets
abbrev pub FitSheet : SheetCall → Type 0
FitSheet (set_q v) = Fit v
FitSheet (set_params p) = Fit (values_of p)
FitSheet (set_kind i k) = kind_fits k ≡ true

abbrev pub FitSet : SetCall → Type 0
FitSet (set_x v) = Fit v
FitSet (set_p v) = Fit v
FitSet (open_prediction b) = Unit {0}
FitSet (open_correction b) = Unit {0}
FitSet open_prediction_stepped = Unit {0}
FitSet open_correction_stepped = Unit {0}

abbrev pub FitCall : Call → Type 0
FitCall (writing c) = FitSheet c
FitCall (setting c) = FitSet c
FitCall (stepping c) = Unit {0}
FitCall (closing c) = Unit {0}
FitCall (closing_stepped c) = Unit {0}
FitCall abandon = Unit {0}
FitCall (reading c) = Unit {0}

-- the filters that the demands speak of (`Yielded`), where New and the calls are lent an f64's numbers, as every program's are by their type
pub data Fed : Filter → Type 0 where
  fed_new : (n : ℕ) (x p q : List Float) (params : Params) → Fit x → Fit p → Fit q → Fit (values_of params) → Fed (new_answer binary64 n x p q params).filter
  fed_load : (b : List ℕ) → Fed (load_answer binary64 b).filter
  fed_call : {s : Filter} → Fed s → (c : Call) → FitCall c → Fed (step binary64 s c).filter
  fed_at_will : {s : Filter} (t : Filter) → Fed s → Alike s t → Fed t

-- and such pairs (`PairYielded`)
pub data PairFed : Pair → Type 0 where
  pair_fed_new : (n : ℕ) (x₁ p₁ x₂ p₂ q : List Float) (params : Params) → Fit x₁ → Fit p₁ → Fit x₂ → Fit p₂ → Fit q → Fit (values_of params) → PairFed (new_pair_answer binary64 n x₁ p₁ x₂ p₂ q params).pair
  pair_fed_call : {p : Pair} → PairFed p → (w : Side) (c : Call) → FitCall c → PairFed (pair_step binary64 p w c).pair
  pair_fed_at_will : {p : Pair} (q : Pair) → PairFed p → p.sheet ≡ q.sheet → ((w : Side) → AtWill (track_at p w) (track_at q w)) → PairFed q

-- ---- save and load

-- nothing stops a save of s into b before 11: nothing is open, there are 1 to 8 states, and b has room for the record
pub record BeforeFresh (s : Filter) (b : List ℕ) : Type 0 where
  pub shut : is_shut s.track.stage ≡ true
  pub states : (1 ≤ s.sheet.n) × (s.sheet.n ≤ 8)
  pub room : 27 + 17 * s.sheet.n + 16 * (s.sheet.n * s.sheet.n) ≤ length b

-- nothing stops a load of b before 12
pub record BeforeRecord (b : List ℕ) : Type 0 where
  pub three : 3 ≤ length b
  pub states : (1 ≤ get_or b 2 0) × (get_or b 2 0 ≤ 8)
  pub whole : 27 + 17 * get_or b 2 0 + 16 * (get_or b 2 0 * get_or b 2 0) ≤ length b

-- 12, of a kind's bytes, from its first on: kind byte not 0 or 1, or plain with h bytes not zero
abbrev pub IllFormed : List ℕ → Type 0
IllFormed c = ((get_or c 0 0 ≢ 0) × (get_or c 0 0 ≢ 1)) ⊎ ((get_or c 0 0 ≡ 0) × Some (λ (i : ℕ). i ≢ 0) (take 8 (drop 1 c)))

-- of the whole: wrong mark (57 50 hex are 87 and 80), or a kind that is ill-formed
abbrev pub NoRecord : List ℕ → Type 0
NoRecord b = let k = get_or b 2 0 in (get_or b 0 0 ≢ 87) ⊎ ((get_or b 1 0 ≢ 80) ⊎ Some IllFormed (read_each 9 (λ c. c) k (drop (27 + 8 * k + 16 * (k * k)) b)))

-- the filter with points, weights and scratch as New leaves them: stale, nothing open
abbrev pub refreshed : Filter → Filter
refreshed s = filter s.sheet (fresh_track s.track.x s.track.p)

-- t is what stands in the bytes b: n after the mark, then x, P, Q, alpha, beta and kappa of eight bytes a number, then nine bytes a kind; unused places +0 and other kinds plain, stale, nothing open, points, weights and scratch +0, as New leaves a filter. There is one such t. The mark is not looked at
pub record Reads (b : List ℕ) (t : Filter) : Type 0 where
  pub n : t.sheet.n ≡ get_or b 2 0
  pub x : let k = get_or b 2 0 in t.track.x ≡ over (read_each 8 number_at k (drop 3 b)) (zeros 8)
  pub p : let k = get_or b 2 0 in t.track.p ≡ over (read_each 8 number_at (k * k) (drop (3 + 8 * k) b)) (zeros 64)
  pub q : let k = get_or b 2 0 in t.sheet.q ≡ over (read_each 8 number_at (k * k) (drop (3 + 8 * k + 8 * (k * k)) b)) (zeros 64)
  pub params : let k = get_or b 2 0 in t.sheet.params ≡ record { alpha = number_at (drop (3 + 8 * k + 16 * (k * k)) b); beta = number_at (drop (11 + 8 * k + 16 * (k * k)) b); kappa = number_at (drop (19 + 8 * k + 16 * (k * k)) b) }
  pub kinds : let k = get_or b 2 0 in t.sheet.kinds ≡ over (read_each 9 kind_at k (drop (27 + 8 * k + 16 * (k * k)) b)) (replicate 8 plain)
  pub rest : t.track ≡ fresh_track t.track.x t.track.p
