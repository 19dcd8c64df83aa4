-- The table of refusals in the documents' own words (51 to 56, 10, 11, 12 and the places are document 02's; what A7 adds to 3 and 1 is in what its calls ask, `fits` and `named`, and that 3 is wider on a pair in what a call on a side asks, `pair_fits`), and when a number is due. Definitions only.
use Rattle.std.specs.Prelude.{ℕ, ◌+◌, ◌*◌, ◌<◌, ◌≤◌, ◌≡◌, true, false, List, [], ◌∷◌, ◌++◌, ◌⊎◌, ◌≢◌, length, take, get_or, Float}
use Rattle.std.specs.Float.{Format}
use Rattle.std.specs.Float.Ieee.{lt, add}
use Rattle.std.specs.Float.Ieee.Scale.{finite}
use Rattle.floats.specs.declared.Slice.{Slice}
use Rattle.floats.specs.declared.Slice.TheVariants.{State, Covariance, Noise, Points, Measurement, Lone}
use Rattle.floats.specs.declared.Verdict.{Verdict}
use Rattle.floats.specs.declared.Refusal.{Refusal}
use Rattle.floats.specs.declared.Refusal.TheVariants.{Size as SIZE, Short as SHORT, Stage as STAGE, Stale as STALE, Number as NUMBER, Param as PARAM, Pivot as PIVOT, Innovation as INNOV, Range as RANGE, Kind as KIND, Fresh as FRESH, Record as RECORD}
use Rattle.floats.specs.Refusal.{bad_lone, slice_number}
use Rattle.floats.specs.Search.{Input, input}
use Rattle.floats.specs.Numbers.{plus_zero, all_finite}
use Rattle.angles.specs.Kinds.{plain, half_of}
use Rattle.angles.specs.Kinds.{Kind}
use Rattle.angles.specs.declared.Kind.TheVariants.{Plain, Turn}
use Rattle.matrix.specs.Results.{Result, numbers, pivot, rooting, refusal_of}
use Rattle.sigma.specs.Weights.{scale_of, w0m_of, w0c_of, wi_of}
use Rattle.filter.specs.Types.{Filter}
use Rattle.filter.specs.Filters.{is_correcting, seen}
use Rattle.filter.specs.Asked.{Size, Lent, of_numbers, of_bytes, Param, by_params, by_kind, Asks}
use Rattle.filter.specs.Calls.{CloseCall, SteppedClose, with_list, Call, writing, setting, stepping, closing, closing_stepped, abandon, reading, set_x, set_p, set_q, set_params, set_kind, open_prediction, open_correction, open_prediction_stepped, open_correction_stepped, ask, image_prediction, image_correction, close_prediction, close_correction, close_correction_flat, close_prediction_stepped, close_correction_stepped, close_correction_flat_stepped, save, fits, sized, lend, halves, as_kinds, Needs, named, needing, needing_plain, asking, asks}

-- one of the list has P
pub data Some {A : Type 0} (P : A → Type 0) : List A → Type 0 where
  here : {x : A} {l : List A} → P x → Some P (x ∷ l)
  there : {x : A} {l : List A} → Some P l → Some P (x ∷ l)

abbrev pub NotFinite : Float → Type 0
NotFinite x = finite x ≡ false

abbrev pub NotAbove : Float → Type 0
NotAbove x = lt plus_zero x ≡ false

abbrev pub Below : Float → Type 0
Below x = lt x plus_zero ≡ true

-- 1: n, m, a state index or k out of range; the range of a later m of a stepped correction is the first image's m alone
abbrev pub OutOfRange : Size → Type 0
OutOfRange s = (s.value < s.from) ⊎ (s.to < s.value)

-- 2: a lent slice is shorter than the call needs
abbrev pub Shorter : Lent → Type 0
Shorter (of_numbers slice needs) = length slice < needs
Shorter (of_bytes slice needs) = length slice < needs

-- the first of a list that has P is that at i; d stands past the end, and is to be one without P, as +0 and a plain kind below, so that i is inside the list
pub record FirstAt {A : Type 0} (P : A → Type 0) (d : A) (l : List A) (i : ℕ) : Type 0 where
  pub has : P (get_or l i d)
  pub before : (j : ℕ) → j < i → P (get_or l j d) → ⊥

-- 51 to 56: number i of a slice isn't finite, and all before it are;
abbrev pub FirstIn : List Float → ℕ → Type 0
FirstIn = FirstAt NotFinite plus_zero

-- of the slices in the order of the search it is one named s that has it, and all numbers of those before it are finite (New of a pair has two states and two covariances, and load a lone value more for each kind)
pub data FirstBad : Slice → ℕ → List Input → Type 0 where
  found : {i : ℕ} {x : Input} {l : List Input} → FirstIn x.numbers i → FirstBad x.name i (x ∷ l)
  further : {s : Slice} {i : ℕ} {x : Input} {l : List Input} → (Some NotFinite x.numbers → ⊥) → FirstBad s i l → FirstBad s i (x ∷ l)

-- what a close searches
abbrev pub close_searches : ℕ → CloseCall → List Input
close_searches n (close_prediction v) = input Points (take ((n + n + 1) * n) v)
close_searches n (close_correction m z r kinds observed) = input Noise (take (m * m) r) ++ (input Points (take ((n + n + 1) * m) observed) ++ (input Measurement (take m z) ++ input Lone (halves (take m kinds))))
close_searches n (close_correction_flat m z r observed) = input Noise (take (m * m) r) ++ (input Points (take ((n + n + 1) * m) observed) ++ (input Measurement (take m z) ++ input Lone []))

-- what each call on the filter s, of n states, searches: state, covariance, noise, points, measurement, lone values (a flat close has no half-turns, an empty slice). A stepped close searches the images that are in, which have passed as they were handed in
abbrev pub searches : Filter → Call → List Input
searches s (setting (set_x v)) = input State (take s.sheet.n v)
searches s (setting (set_p v)) = input Covariance (take (s.sheet.n * s.sheet.n) v)
searches s (writing (set_q v)) = input Noise (take (s.sheet.n * s.sheet.n) v)
searches s (writing (set_params p)) = input Lone (p.alpha ∷ p.beta ∷ p.kappa ∷ [])
searches s (writing (set_kind i k)) = input Lone (half_of k ∷ [])
searches s (stepping (image_prediction v)) = input Points (take s.sheet.n v)
searches s (stepping (image_correction m v)) = input Points (take m v)
searches s (closing c) = close_searches s.sheet.n c
searches s (closing_stepped c) = close_searches s.sheet.n (with_list c s.track.kept.images)
searches s (setting (open_prediction b)) = []
searches s (setting (open_correction b)) = []
searches s (setting open_prediction_stepped) = []
searches s (setting open_correction_stepped) = []
searches s (stepping (ask b)) = []
searches s abandon = []
searches s (reading c) = []

-- slices in the order of their numbers, each once, after one of number k
abbrev pub Ascending : ℕ → List Input → Type 0
Ascending k [] = Unit {0}
Ascending k (x ∷ l) = (k < slice_number x.name) × Ascending (slice_number x.name) l

-- a half-turn that comes in isn't finite
abbrev pub BadTurn : Kind → Type 0
BadTurn k = (h : Float) × (k ≡ Turn h) × NotFinite h

-- the first such kind is that at i
abbrev pub FirstBadTurn : List Kind → ℕ → Type 0
FirstBadTurn = FirstAt BadTurn plain

-- 10: a state kind is a turn
abbrev pub IsTurn : Kind → Type 0
IsTurn k = (h : Float) × (k ≡ Turn h)

-- 6: n+lambda not finite or not above 0, or w0m, w0c or wi not finite; h not above 0 or 2h not finite
abbrev pub UnfitTurn : Format → Kind → Type 0
UnfitTurn f Plain = ⊥
UnfitTurn f (Turn h) = NotAbove h ⊎ NotFinite (add f h h)

abbrev pub Unfit : Format → Param → Type 0
Unfit f (by_params n p) = (NotFinite (scale_of f n p) ⊎ NotAbove (scale_of f n p)) ⊎ (NotFinite (w0m_of f n p) ⊎ (NotFinite (w0c_of f n p) ⊎ NotFinite (wi_of f n p)))
Unfit f (by_kind k) = UnfitTurn f k

-- 7 and 8: a pivot isn't finite or isn't above 0; 9: a listed step result isn't finite; 56: root of a number that isn't finite or is below zero
abbrev pub Fails : Result → Type 0
Fails (numbers v) = Some NotFinite v
Fails (pivot r x) = NotFinite x ⊎ NotAbove x
Fails (rooting x) = NotFinite x ⊎ Below x

-- of the results in running order, the first that fails is refused by r
pub data FirstFails : Refusal → List Result → Type 0 where
  now : {v : Result} {vs : List Result} → Fails v → FirstFails (refusal_of v) (v ∷ vs)
  later : {r : Refusal} {v : Result} {vs : List Result} → (Fails v → ⊥) → FirstFails r vs → FirstFails r (v ∷ vs)

-- ---- THE TABLE: the causes of a refusal, a row each; what the steps meet comes by the first result that fails

pub data Cause : Type 0 where
  stage size short form stale fresh kind param : Cause
  number : Slice → ℕ → Cause
  met : Refusal → Cause

abbrev pub gives : Cause → Refusal
gives stage = STAGE
gives size = SIZE
gives short = SHORT
gives form = RECORD
gives stale = STALE
gives fresh = FRESH
gives (number s i) = NUMBER s i
gives kind = KIND
gives param = PARAM
gives (met r) = r

abbrev pub Applies : Format → Asks → List Result → Cause → Type 0
Applies f a vs stage = a.fits ≡ false
Applies f a vs size = Some OutOfRange a.sizes
Applies f a vs short = Some Shorter a.lent
Applies f a vs form = a.formed ≡ false
Applies f a vs stale = a.stale ≡ true
Applies f a vs fresh = a.fresh ≡ true
Applies f a vs (number s i) = FirstBad s i a.inputs
Applies f a vs kind = Some IsTurn a.plain
Applies f a vs param = Some (Unfit f) a.params
Applies f a vs (met r) = FirstFails r vs

-- the order: 3, 1, 2, 12, 4, 11, 51 to 56 as the search finds them, 10, 6, then 7, 8, 9 and a root's 56 as the steps meet them
abbrev pub rank : Cause → ℕ
rank stage = 0
rank size = 1
rank short = 2
rank form = 3
rank stale = 4
rank fresh = 5
rank (number s i) = 6
rank kind = 7
rank param = 8
rank (met r) = 9

-- r is due: a row that gives it applies, and no row before it in the order
pub record Due (f : Format) (a : Asks) (vs : List Result) (r : Refusal) : Type 0 where
  pub cause : Cause
  pub gives_it : gives cause ≡ r
  pub applies : Applies f a vs cause
  pub no_earlier : (c : Cause) → rank c < rank cause → Applies f a vs c → ⊥

-- no row before rank k applies to a call: with 6 nothing is refused before the search of its numbers, with 9 nothing before its steps
abbrev pub Free : Format → ℕ → Filter → Call → Type 0
Free f k s c = (d : Cause) → rank d < k → Applies f (asks (seen s) c) [] d → ⊥

-- ---- what the steps of a call can give

-- the opens; the closes, of which some are a correction's; those that ask kinds to be plain; and save
pub data IsOpen : Call → Type 0 where
  of_prediction : {b : List Float} → IsOpen (setting (open_prediction b))
  of_correction : {b : List Float} → IsOpen (setting (open_correction b))
  of_prediction_stepped : IsOpen (setting open_prediction_stepped)
  of_correction_stepped : IsOpen (setting open_correction_stepped)

pub data IsClose : Call → Type 0 where
  of_either : {c : CloseCall} → IsClose (closing c)
  of_stepped : {c : SteppedClose} → IsClose (closing_stepped c)

pub data IsCorrection : Call → Type 0 where
  by_weights : {m : ℕ} {z r : List Float} {kinds : List Kind} {observed : List Float} → IsCorrection (closing (close_correction m z r kinds observed))
  by_averages : {m : ℕ} {z r observed : List Float} → IsCorrection (closing (close_correction_flat m z r observed))
  by_weights_stepped : {m : ℕ} {z r : List Float} {kinds : List Kind} → IsCorrection (closing_stepped (close_correction_stepped m z r kinds))
  by_averages_stepped : {m : ℕ} {z r : List Float} → IsCorrection (closing_stepped (close_correction_flat_stepped m z r))

pub data IsFlat : Call → Type 0 where
  flat : {m : ℕ} {z r observed : List Float} → IsFlat (closing (close_correction_flat m z r observed))
  flat_stepped : {m : ℕ} {z r : List Float} → IsFlat (closing_stepped (close_correction_flat_stepped m z r))

pub data IsSave : Call → Type 0 where
  saves : {b : List ℕ} → IsSave (reading (save b))

-- at the most: an open 7 at any row, and 56 at 0 for an N without a root; a close of a correction 8 at any row; each of these, and the close of a prediction, 9; another call nothing
abbrev pub ByStep : Call → Refusal → Type 0
ByStep c SIZE = ⊥
ByStep c SHORT = ⊥
ByStep c STAGE = ⊥
ByStep c STALE = ⊥
ByStep c (NUMBER s i) = (NUMBER s i ≡ bad_lone) × IsOpen c
ByStep c PARAM = ⊥
ByStep c (PIVOT j) = IsOpen c
ByStep c (INNOV j) = IsCorrection c
ByStep c RANGE = IsOpen c ⊎ IsClose c
ByStep c KIND = ⊥
ByStep c FRESH = ⊥
ByStep c RECORD = ⊥

-- nothing stops a whole-list close of a correction before its kinds count: a correction is open with the whole list, there are 1 to 8 states and 1 to 4 measurements, the slices are long enough and their numbers finite
pub record Measurable (s : Filter) (m : ℕ) (z r observed : List Float) : Type 0 where
  pub correcting : is_correcting s.track.stage ≡ true
  pub states : (1 ≤ s.sheet.n) × (s.sheet.n ≤ 8)
  pub measurements : (1 ≤ m) × (m ≤ 4)
  pub long : (m ≤ length z) × (m * m ≤ length r) × ((s.sheet.n + s.sheet.n + 1) * m ≤ length observed)
  pub finite_z : all_finite (take m z) ≡ true
  pub finite_r : all_finite (take (m * m) r) ≡ true
  pub finite_observed : all_finite (take ((s.sheet.n + s.sheet.n + 1) * m) observed) ≡ true

-- a place that isn't 0 is told beside 51 to 56, 7 and 8 alone
abbrev pub Placed : Verdict → Type 0
Placed v = (v.place ≡ 0) ⊎ (((s : Slice) × (v.number ≡ slice_number s)) ⊎ ((v.number ≡ 7) ⊎ (v.number ≡ 8)))

-- neither one of 51 to 56 nor 6
abbrev pub Neither : ℕ → Type 0
Neither k = ((s : Slice) → k ≢ slice_number s) × (k ≢ 6)

-- ---- what a stepped close asks, of a filter that the demands speak of (s as seen)

-- that every image of its call is in, 1 to 8 states, m of 1 to 4 and the first image's, z and R long enough; R, z and the half-turns finite; then that the kinds pass 6 or, of a flat close, are plain (10). No list: the images have been judged
abbrev pub stepped_needs : Filter → SteppedClose → Needs
stepped_needs s close_prediction_stepped = needing [] [] false [] []
stepped_needs s (close_correction_stepped m z r kinds) =
    needing (named s.track.kept m ++ sized m 1 4)
    (lend z m ++ lend r (m * m))
    false
    (input Noise (take (m * m) r) ++ (input Measurement (take m z) ++ input Lone (halves (take m kinds))))
    (as_kinds (take m kinds))
stepped_needs s (close_correction_flat_stepped m z r) =
    needing_plain (take s.sheet.n s.sheet.kinds)
    (needing (named s.track.kept m ++ sized m 1 4)
    (lend z m ++ lend r (m * m))
    false
    (input Noise (take (m * m) r) ++ (input Measurement (take m z) ++ input Lone []))
    [])

abbrev pub stepped_asks : Filter → SteppedClose → Asks
stepped_asks s c = asking (fits (closing_stepped c) s) s.sheet.n (stepped_needs s c)
