-- THE TABLE OF CALLS: what each call asks, and what it does once nothing is refused before the steps. s is the filter as seen. Definitions only.
use Rattle.std.specs.Prelude.{ℕ, ◌+◌, ◌-◌, ◌*◌, Bool, true, false, not, ◌&&◌, cond, List, [], ◌∷◌, ◌++◌, take, drop, set, leb, eqb, Float}
use Rattle.std.proofs.Math.Seq.{paste}
use Rattle.std.specs.Float.{Format}
use Rattle.floats.specs.declared.Slice.TheVariants.{State, Covariance, Noise, Points, Measurement, Lone}
use Rattle.floats.specs.Refusal.{taken}
use Rattle.floats.specs.Search.{Input, input}
use Rattle.floats.specs.Numbers.{zeros}
use Rattle.floats.specs.Fronts.{front}
use Rattle.angles.specs.Kinds.{half_of}
use Rattle.angles.specs.Kinds.{Kind}
use Rattle.matrix.specs.Results.{Plan, finish, mapped}
use Rattle.sigma.specs.Weights.{Params}
use Rattle.sigma.specs.Weights.{scale_of, w0m_of, weights_of}
use Rattle.sigma.specs.Draw.{point_numbers, draw_plan}
use Rattle.sigma.specs.Predict.{Moment, predict_plan}
use Rattle.correction.specs.Leaves.{widened}
use Rattle.correction.specs.Correct.{Head, apply_plan, given, weighted_head}
use Rattle.correction.specs.Flat.{flat_head}
use Rattle.filter.specs.declared.Stage.{Stage}
use Rattle.filter.specs.declared.Stage.TheVariants.{Shut, Predicting, Correcting, PredictingStepped, CorrectingStepped}
use Rattle.filter.specs.Types.{Weighted}
use Rattle.filter.specs.Types.{Kept}
use Rattle.filter.specs.Types.{Sheet}
use Rattle.filter.specs.Types.{Filter}
use Rattle.filter.specs.Types.{Intake}
use Rattle.filter.specs.Asked.{Size, Lent, of_numbers, of_bytes, Param, by_params, by_kind, Asks}
use Rattle.filter.specs.Records.{record_length, bytes_of}
use Rattle.filter.specs.Filters.{is_shut, is_predicting, is_correcting, is_predicting_stepped, is_correcting_stepped, is_stepped, keeping, Writing, q_set, params_set, kinds_set, Setting, x_set, p_set, opened_prediction, opened_correction, opened_prediction_stepped, opened_correction_stepped, Change, writes, sets, closes, keeps, abandons, reads}

-- ---- the calls with their inputs, by what may be open when they are taken: nothing; their own; anything (of the readings all but save, which wants nothing open). A list is a lent slice. Save is the f64 filter's alone, and so is load (Load.antt).

-- with nothing open, those that change the sheet
pub data SheetCall : Type 0 where
  set_q : List Float → SheetCall
  set_params : Params → SheetCall
  set_kind : ℕ → Kind → SheetCall

-- with nothing open, those that change the track
pub data SetCall : Type 0 where
  set_x set_p : List Float → SetCall
  open_prediction open_correction : List Float → SetCall
  -- one point at a time: no list is lent
  open_prediction_stepped open_correction_stepped : SetCall

-- in a stepped call: the next point asked for; its image handed in, n numbers, or in a correction m of them
pub data StepCall : Type 0 where
  ask : List Float → StepCall
  image_prediction : List Float → StepCall
  image_correction : ℕ → List Float → StepCall

pub data CloseCall : Type 0 where
  close_prediction : List Float → CloseCall
  -- m, z, R, the four measurement kinds, the observed points
  close_correction : ℕ → List Float → List Float → List Kind → List Float → CloseCall
  -- by flat averages: m, z, R, the observed points
  close_correction_flat : ℕ → List Float → List Float → List Float → CloseCall

-- of a stepped call: the same, and the images that are in stand for the list
pub data SteppedClose : Type 0 where
  close_prediction_stepped : SteppedClose
  close_correction_stepped : ℕ → List Float → List Float → List Kind → SteppedClose
  close_correction_flat_stepped : ℕ → List Float → List Float → SteppedClose

abbrev pub with_list : SteppedClose → List Float → CloseCall
with_list close_prediction_stepped v = close_prediction v
with_list (close_correction_stepped m z r kinds) v = close_correction m z r kinds v
with_list (close_correction_flat_stepped m z r) v = close_correction_flat m z r v

pub data ReadCall : Type 0 where
  read_x read_p read_q read_points : List Float → ReadCall
  read_params read_stale : ReadCall
  -- the record of the filter, into lent bytes; with nothing open
  save : List ℕ → ReadCall

pub data Call : Type 0 where
  writing : SheetCall → Call
  setting : SetCall → Call
  stepping : StepCall → Call
  closing : CloseCall → Call
  closing_stepped : SteppedClose → Call
  abandon : Call
  reading : ReadCall → Call

-- the whole-list open call that leads to a stage; for a stage to which none leads it is open-prediction, which tells nothing
abbrev pub opening : Stage → List Float → Call
opening Shut b = setting (open_prediction b)
opening Predicting b = setting (open_prediction b)
opening Correcting b = setting (open_correction b)
opening PredictingStepped b = setting (open_prediction b)
opening CorrectingStepped b = setting (open_prediction b)

-- ---- 3: while a call is open only its own close, abandon and the readings but save are taken, and in a stepped one its own steps; a stepped close ends no whole-list call, nor the other way round

abbrev pub own_open : CloseCall → Stage → Bool
own_open (close_prediction points) t = is_predicting t
own_open (close_correction m z r kinds observed) t = is_correcting t
own_open (close_correction_flat m z r observed) t = is_correcting t

-- a point is due until the images of all 2n+1 are in
abbrev pub due : Filter → Bool
due s = leb s.track.kept.at (s.sheet.n + s.sheet.n)

-- an image needs its point asked for
abbrev pub own_step : StepCall → Filter → Bool
own_step (ask b) s = is_stepped s.track.stage && due s
own_step (image_prediction v) s = is_predicting_stepped s.track.stage && (due s && s.track.kept.asked)
own_step (image_correction m v) s = is_correcting_stepped s.track.stage && (due s && s.track.kept.asked)

abbrev pub own_stepped : SteppedClose → Stage → Bool
own_stepped close_prediction_stepped t = is_predicting_stepped t
own_stepped (close_correction_stepped m z r kinds) t = is_correcting_stepped t
own_stepped (close_correction_flat_stepped m z r) t = is_correcting_stepped t

abbrev pub own_read : ReadCall → Stage → Bool
own_read (read_x b) t = true
own_read (read_p b) t = true
own_read (read_q b) t = true
own_read (read_points b) t = true
own_read read_params t = true
own_read read_stale t = true
own_read (save b) t = is_shut t

abbrev pub fits : Call → Filter → Bool
fits (writing c) s = is_shut s.track.stage
fits (setting c) s = is_shut s.track.stage
fits (stepping c) s = own_step c s
fits (closing c) s = own_open c s.track.stage
fits (closing_stepped c) s = own_stepped c s.track.stage && not (due s)
fits abandon s = not (is_shut s.track.stage)
fits (reading c) s = own_read c s.track.stage

-- ---- what each call needs beside that and 1 to 8 states: sizes; lent slices with how much of each is needed; whether stale stops it, or its not being so; the slices whose numbers come in, in the order of the search; kinds that have to be plain; what has to pass 6

abbrev pub sized : ℕ → ℕ → ℕ → List Size
sized v from to = record { value = v; from = from; to = to } ∷ []

abbrev pub lend : List Float → ℕ → List Lent
lend slice needs = of_numbers slice needs ∷ []

abbrev pub lend_bytes : List ℕ → ℕ → List Lent
lend_bytes slice needs = of_bytes slice needs ∷ []

-- the number that each kind brings in, at the kind's own index: a plain one keeps its place
abbrev pub halves : List Kind → List Float
halves [] = []
halves (k ∷ ks) = half_of k ∷ halves ks

-- alpha, beta and kappa, lone values at 0, 1 and 2
abbrev pub values_of : Params → List Float
values_of p = p.alpha ∷ p.beta ∷ p.kappa ∷ []

abbrev pub as_kinds : List Kind → List Param
as_kinds [] = []
as_kinds (k ∷ ks) = by_kind k ∷ as_kinds ks

pub record Needs : Type 0 where
  pub sizes : List Size
  pub lent : List Lent
  pub stale : Bool
  pub fresh : Bool
  pub inputs : List Input
  pub plain : List Kind
  pub params : List Param

-- m is the one that the first image has named, where one has
abbrev pub named : Kept → ℕ → List Size
named k m = cond (eqb k.m 0) [] (sized m k.m k.m)

-- so is the m of a stepped close
abbrev pub named_by : Kept → SteppedClose → List Size
named_by k close_prediction_stepped = []
named_by k (close_correction_stepped m z r kinds) = named k m
named_by k (close_correction_flat_stepped m z r) = named k m

-- a line of the table of calls that asks no kind to be plain, and that a filter that isn't stale passes
abbrev pub needing : List Size → List Lent → Bool → List Input → List Param → Needs
needing sizes lent stale inputs params = record { sizes = sizes; lent = lent; stale = stale; fresh = false; inputs = inputs; plain = []; params = params }

-- the same, and that these kinds be plain
abbrev pub needing_plain : List Kind → Needs → Needs
needing_plain kinds a = record { sizes = a.sizes; lent = a.lent; stale = a.stale; fresh = a.fresh; inputs = a.inputs; plain = kinds; params = a.params }

-- the numbers of 2n+1 observed points of m
abbrev pub observed_numbers : ℕ → ℕ → ℕ
observed_numbers n m = (n + n + 1) * m

-- z, R and the observed points of m measurements
abbrev pub lent_measured : ℕ → ℕ → List Float → List Float → List Float → List Lent
lent_measured n m z r observed = lend z m ++ (lend r (m * m) ++ lend observed (observed_numbers n m))

-- their numbers and the half-turns of the call's own kinds, in the order of the search: R, the observed points, z, half-turns
abbrev pub inputs_measured : ℕ → ℕ → List Float → List Float → List Float → List Float → List Input
inputs_measured n m z r observed turns = input Noise (take (m * m) r) ++ (input Points (take (observed_numbers n m) observed) ++ (input Measurement (take m z) ++ input Lone turns))

-- z, R and the observed points as the steps take them: the front of each slice, +0 past it
abbrev pub measurement : ℕ → ℕ → List Float → List Float → List Float → Intake
measurement n m z r observed = record { refusal = taken; z = front m z (zeros 8); r = front (m * m) r (zeros 64); observed = front (observed_numbers n m) observed (zeros 136) }

-- a change of the sheet goes by the sheet alone
abbrev pub sheet_needs : Sheet → SheetCall → Needs
sheet_needs s (set_q v) = needing [] (lend v (s.n * s.n)) false (input Noise (take (s.n * s.n) v)) []
sheet_needs s (set_params p) = needing [] [] false (input Lone (values_of p)) (by_params s.n p ∷ [])
sheet_needs s (set_kind i k) = needing (sized i 0 (s.n - 1)) [] false (input Lone (half_of k ∷ [])) (by_kind k ∷ [])

abbrev pub close_needs : Sheet → CloseCall → Needs
close_needs s (close_prediction v) = needing [] (lend v (point_numbers s.n)) false (input Points (take (point_numbers s.n) v)) []
close_needs s (close_correction m z r kinds observed) =
    needing (sized m 1 4)
    (lent_measured s.n m z r observed)
    false
    (inputs_measured s.n m z r observed (halves (take m kinds)))
    (as_kinds (take m kinds))
close_needs s (close_correction_flat m z r observed) =
    needing_plain (take s.n s.kinds)
    (needing (sized m 1 4)
    (lent_measured s.n m z r observed)
    false
    (inputs_measured s.n m z r observed [])
    [])

-- what is needed, and these sizes beside
abbrev pub besides : List Size → Needs → Needs
besides sizes a = record { sizes = sizes ++ a.sizes; lent = a.lent; stale = a.stale; fresh = a.fresh; inputs = a.inputs; plain = a.plain; params = a.params }

abbrev pub needs : Filter → Call → Needs
needs s (writing c) = sheet_needs s.sheet c
needs s (setting (set_x v)) = needing [] (lend v s.sheet.n) false (input State (take s.sheet.n v)) []
needs s (setting (set_p v)) = needing [] (lend v (s.sheet.n * s.sheet.n)) false (input Covariance (take (s.sheet.n * s.sheet.n) v)) []
needs s (setting (open_prediction b)) = needing [] (lend b (point_numbers s.sheet.n)) false [] []
needs s (setting (open_correction b)) = needing [] (lend b (point_numbers s.sheet.n)) false [] []
needs s (setting open_prediction_stepped) = needing [] [] false [] []
needs s (setting open_correction_stepped) = needing [] [] false [] []
needs s (stepping (ask b)) = needing [] (lend b s.sheet.n) false [] []
needs s (stepping (image_prediction v)) = needing [] (lend v s.sheet.n) false (input Points (take s.sheet.n v)) []
needs s (stepping (image_correction m v)) = needing (sized m 1 4 ++ named s.track.kept m) (lend v m) false (input Points (take m v)) []
needs s (closing c) = close_needs s.sheet c
-- no list is lent: the images that are in serve. They are asked for once more, which refuses nothing on a filter that the demands speak of (`stepped-close-exactly-when`, crates/demands/proofs/Demand1.antt)
needs s (closing_stepped c) = besides (named_by s.track.kept c) (close_needs s.sheet (with_list c s.track.kept.images))
needs s abandon = needing [] [] false [] []
needs s (reading (read_x b)) = needing [] (lend b s.sheet.n) false [] []
needs s (reading (read_p b)) = needing [] (lend b (s.sheet.n * s.sheet.n)) false [] []
needs s (reading (read_q b)) = needing [] (lend b (s.sheet.n * s.sheet.n)) false [] []
needs s (reading (read_points b)) = needing [] (lend b (point_numbers s.sheet.n)) s.track.stale [] []
needs s (reading read_params) = needing [] [] false [] []
needs s (reading read_stale) = needing [] [] false [] []
needs s (reading (save b)) = record { sizes = []; lent = lend_bytes b (record_length s.sheet.n); stale = false; fresh = not s.track.stale; inputs = []; plain = []; params = [] }

-- what is asked in all: that the call fits what is open, 1 to 8 states, and the rest
abbrev pub asking : Bool → ℕ → Needs → Asks
asking fits n a = record { fits = fits; sizes = record { value = n; from = 1; to = 8 } ∷ a.sizes; lent = a.lent; formed = true; stale = a.stale; fresh = a.fresh; inputs = a.inputs; plain = a.plain; params = a.params }

abbrev pub line : Bool → ℕ → List Size → List Lent → Bool → List Input → List Param → Asks
line fits n sizes lent stale inputs params = asking fits n (needing sizes lent stale inputs params)

abbrev pub asks : Filter → Call → Asks
asks s c = asking (fits c s) s.sheet.n (needs s c)

-- ---- what a call does once taken: its change, the numbers that it hands out, what a reading of the stale mark answers (elsewhere true, which tells nothing), and the bytes that it hands out, those of a saved record alone

pub record Done : Type 0 where
  pub change : Change
  pub given : List Float
  pub stale : Bool
  pub bytes : List ℕ

abbrev pub done : Change → List Float → Done
done c given = record { change = c; given = given; stale = true; bytes = [] }

abbrev pub writing_of : Sheet → SheetCall → Writing
writing_of s (set_q v) = q_set (front (s.n * s.n) v (zeros 64))
writing_of s (set_params p) = params_set p
writing_of s (set_kind i k) = kinds_set (set s.kinds i k)

-- the points drawn with their weights, or the current ones, written out
abbrev pub opened : (Weighted → Setting) → ℕ → List Float → List Float → Done
opened to n weights points = done (sets (to (record { weights = weights; points = points }))) (take (point_numbers n) points)

-- the same, and none is written out
abbrev pub opened_stepped : (Weighted → Setting) → List Float → List Float → Done
opened_stepped to weights points = done (sets (to (record { weights = weights; points = points }))) []

-- the point that is due has been asked for; its image, d numbers, is in after those before it, and the next is to be asked for
abbrev pub asked_for : Kept → Kept
asked_for k = keeping k.at true k.m k.images

abbrev pub handed_in : Kept → ℕ → ℕ → List Float → Kept
handed_in k m d v = keeping (k.at + 1) false m (paste k.images (k.at * d) v d)

-- x and P set, points and weights installed
abbrev pub closed : List Float → List Float → Bool → Moment → Done
closed weights points stale m = done (closes (record { x = m.x; p = m.p; installed = record { weights = weights; points = points }; stale = stale })) []

module _ (f : Format) where
  -- weights and points drawn afresh
  abbrev pub draws : (List Float → List Float → Done) → Filter → Plan Done
  draws to s = mapped (to (weights_of f s.sheet.n s.sheet.params)) (draw_plan f s.sheet.n s.track.x s.track.p (scale_of f s.sheet.n s.sheet.params))

  -- in a correction that isn't stale the current ones
  abbrev pub draws_current : (List Float → List Float → Done) → Filter → Plan Done
  draws_current to s = cond s.track.stale (draws to s) (finish (to s.track.weights s.track.points))

  -- from where the steps that the two closes of a correction share start
  abbrev pub weighted_from : Filter → ℕ → List Float → List Float → List Kind → List Float → Head
  weighted_from s m z r kinds observed =
      let v = measurement s.sheet.n m z r observed in
      weighted_head f (given s.sheet.n m s.track.x s.track.p s.track.drawn_points v.observed (w0m_of f s.sheet.n s.sheet.params) s.track.drawn_weights v.z v.r s.sheet.kinds (widened kinds))

  abbrev pub flat_from : Filter → ℕ → List Float → List Float → List Float → Head
  flat_from s m z r observed =
      let v = measurement s.sheet.n m z r observed in
      flat_head f s.sheet.n m s.track.x s.track.p s.track.drawn_points v.observed v.z v.r

  abbrev pub close_plan : Filter → CloseCall → Plan Done
  close_plan s (close_prediction v) =
      let points = front (point_numbers s.sheet.n) v (zeros 136) in
      mapped (closed s.track.drawn_weights points false) (predict_plan f s.sheet.n points (w0m_of f s.sheet.n s.sheet.params) s.track.drawn_weights s.sheet.kinds s.sheet.q)
  close_plan s (close_correction m z r kinds observed) = mapped (closed s.track.drawn_weights s.track.drawn_points true) (apply_plan f (weighted_from s m z r kinds observed))
  close_plan s (close_correction_flat m z r observed) = mapped (closed s.track.drawn_weights s.track.drawn_points true) (apply_plan f (flat_from s m z r observed))

  abbrev pub plan : Filter → Call → Plan Done
  plan s (writing c) = finish (done (writes (writing_of s.sheet c)) [])
  plan s (setting (set_x v)) = finish (done (sets (x_set (front s.sheet.n v (zeros 8)))) [])
  plan s (setting (set_p v)) = finish (done (sets (p_set (front (s.sheet.n * s.sheet.n) v (zeros 64)))) [])
  plan s (setting (open_prediction b)) = draws (opened opened_prediction s.sheet.n) s
  plan s (setting (open_correction b)) = draws_current (opened opened_correction s.sheet.n) s
  plan s (setting open_prediction_stepped) = draws (opened_stepped opened_prediction_stepped) s
  plan s (setting open_correction_stepped) = draws_current (opened_stepped opened_correction_stepped) s
  -- point k of those drawn, k images being in
  plan s (stepping (ask b)) = finish (done (keeps (asked_for s.track.kept)) (take s.sheet.n (drop (s.track.kept.at * s.sheet.n) s.track.drawn_points)))
  plan s (stepping (image_prediction v)) = finish (done (keeps (handed_in s.track.kept 0 s.sheet.n v)) [])
  plan s (stepping (image_correction m v)) = finish (done (keeps (handed_in s.track.kept m m v)) [])
  plan s (closing c) = close_plan s c
  plan s (closing_stepped c) = close_plan s (with_list c s.track.kept.images)
  plan s abandon = finish (done abandons [])
  plan s (reading (read_x b)) = finish (done reads (take s.sheet.n s.track.x))
  plan s (reading (read_p b)) = finish (done reads (take (s.sheet.n * s.sheet.n) s.track.p))
  plan s (reading (read_q b)) = finish (done reads (take (s.sheet.n * s.sheet.n) s.sheet.q))
  plan s (reading (read_points b)) = finish (done reads (take (point_numbers s.sheet.n) s.track.points))
  plan s (reading read_params) = finish (done reads (values_of s.sheet.params))
  plan s (reading read_stale) = finish (record { change = reads; given = []; stale = s.track.stale; bytes = [] })
  plan s (reading (save b)) = finish (record { change = reads; given = []; stale = true; bytes = bytes_of s })
