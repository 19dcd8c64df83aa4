-- Demand 1: a call ends with a result or one of the refusals, each exactly when its row says, with its place; what is refused changes nothing; every number handed out is finite. Over every format. Assumes nothing.
use Prim.Native.Nat.{ℕ, ◌+◌, ◌*◌, ◌<◌, ◌≤◌}
use mathlib.Core.Path.{◌≡◌, refl, sym, ◌∙◌}
use mathlib.Core.Bool.{true, false, not, ◌&&◌, cond}
use mathlib.Core.List.{List, [], ◌∷◌, ◌++◌}
use mathlib.Core.Logic.{◌↔◌, ◌≢◌, ◌⊎◌}
use native.Mathlib.Omega.{arith}
use lib.Dec.{leb, eqb}
use lib.ListN.{length, take}
use lib.Ieee.{Float, Format, add}
use Rattle.floats.specs.declared.Slice.{Slice}
use Rattle.floats.specs.declared.Slice.TheVariants.{State, Covariance, Noise, Points, Measurement, Lone}
use Rattle.floats.specs.declared.Refusal.{Refusal}
use Rattle.floats.specs.declared.Refusal.TheVariants.{Number as NUMBER, Param as PARAM, Size as SIZE, Short as SHORT, Stage as STAGE, Kind as KIND, Pivot as PIVOT, Innovation as INNOV}
use Rattle.floats.specs.Refusal.{bad_lone, verdict, taken, Outcome, refusal}
use Rattle.floats.specs.Search.{Input}
use Rattle.floats.specs.Numbers.{plus_zero, zeros, all_finite}
use Rattle.floats.specs.Fronts.{front, over}
use Rattle.root.specs.Answer.{root_outcome}
use Rattle.angles.specs.Wrap.{wrap_of, shown}
use Rattle.angles.specs.Kinds.{kind_of}
use Rattle.angles.specs.Kinds.{Kind}
use Rattle.matrix.specs.Results.{planned}
use Rattle.matrix.specs.Factored.{BadPivot}
use Rattle.sigma.specs.Weights.{Params}
use Rattle.sigma.specs.Weights.{scale_of, w0m_of}
use Rattle.sigma.specs.Draw.{point_numbers}
use Rattle.filter.specs.Types.{Filter}
use Rattle.filter.specs.Asked.{of_numbers, by_params, Asks}
use Rattle.filter.specs.Filters.{is_shut, is_predicting_stepped, is_correcting_stepped, is_stepped, seen}
use Rattle.filter.specs.Calls.{Call, writing, setting, stepping, closing, closing_stepped, set_kind, open_prediction, open_correction, open_prediction_stepped, open_correction_stepped, ask, image_prediction, image_correction, SteppedClose, close_prediction_stepped, close_correction_stepped, close_correction_flat_stepped, with_list, close_prediction, close_correction, close_correction_flat, fits, halves, as_kinds, named, asks, plan, weighted_from, flat_from}
use Rattle.filter.specs.Steps.{Reply, Stepped, step, answered, params_read, stale_read}
use Rattle.filter.specs.New.{empty_sheet, empty_track, empty, Start, from, new_asks, start_asks, new_sheet, new_track, new_answer}
use Rattle.filter.specs.Load.{load_asks, load_answer}
use Rattle.filter.specs.Point.{point_asks, point_refusal, point_of}
use Rattle.demands.specs.Rows.{Some, NotFinite, NotAbove, Below, OutOfRange, FirstIn, FirstBad, searches, Ascending, BadTurn, FirstBadTurn, IsTurn, IsOpen, IsClose, IsCorrection, IsFlat, IsSave, Measurable, UnfitTurn, Fails, FirstFails, Cause, Applies, Due, Free, ByStep, Placed, Neither, stepped_asks}
use Rattle.demands.specs.Listed.{listed_at_open, listed_at_prediction, listed_at_head, listed_at_correction}
use Rattle.demands.specs.Runs.{told}
use Rattle.demands.specs.Sound.{Sound, Tidy, Reached, Yielded, handed_out, Each}
use Rattle.demands.proofs.Exactly.{exactly, taken_exactly, new_exactly, new_taken, new_track_exactly, new_track_taken, new_sheet_exactly, new_sheet_taken, load_exactly, load_taken, point_exactly, point_taken, wrap_exactly, wrap_taken, wrap_refused, root_exactly, root_taken, kind_exactly, kind_taken, one_of, ends_so, refused_unwritten, refused_values, new_refused, load_refused, new_track_refused, new_sheet_refused, point_refused}
use Rattle.demands.proofs.Places.{some_bad, one_bad, turn_at, placed_of, placed_so}
use Rattle.demands.proofs.Pivots.{number_exactly, pivot_by_open, innov_by_correction, range_by_steps, prediction_pivot, correction_opened_pivot, correction_closed_pivot, flat_correction_pivot}
use Rattle.demands.proofs.Listed.{open_prediction_lists, open_correction_lists, open_prediction_stepped_lists, open_correction_stepped_lists, close_prediction_lists, close_correction_lists, close_correction_flat_lists}
use Rattle.demands.proofs.Table.{searches_so, ascending, kind_checked, steps_give, stage_exactly, states_first, kind_only, fresh_only, never_record, never_stale, never_param}
use Rattle.demands.proofs.Turned.{turned_away_exactly, half_turn_exactly}
use Rattle.demands.proofs.Sound.{sound, tidy, all_handed_finite}
use Rattle.demands.proofs.Opening.{opening_never}
use Rattle.demands.proofs.SteppedExactly.{stepped_exactly, stepped_taken}
use Rattle.demands.proofs.Unread.{kinds_unread}

module _ (f : Format) where
  -- ---- a result or a refusal, exactly when

  -- Any call on any bits ends with 0 at place 0, or with a refusal's number at its place;
  pub a_result_or_a_refusal : (s : Filter) (c : Call) → ((step f s c).reply.refusal ≡ taken) ⊎ ((r : Refusal) × ((step f s c).reply.refusal ≡ verdict r))
  a_result_or_a_refusal = ends_so f

  -- a number at its place is given exactly when its row of the table applies there and no row before it in the order does,
  pub exactly_when : (s : Filter) (c : Call) (r : Refusal) → ((step f s c).reply.refusal ≡ verdict r) ↔ Due f (asks (seen s) c) (planned (plan f (seen s) c)) r
  exactly_when = exactly f

  -- and the call is taken exactly when no row applies.
  pub taken_when : (s : Filter) (c : Call) → ((step f s c).reply.refusal ≡ taken) ↔ ((d : Cause) → Applies f (asks (seen s) c) (planned (plan f (seen s) c)) d → ⊥)
  taken_when = taken_exactly f

  -- The same of New, which has no steps. It asks for 1 to 8 states, for slices that are long enough, for finite numbers, x, P, Q and the parameters being searched in this order, and for parameters that pass 6;
  pub new_asks_lem : (n : ℕ) (x p q : List Float) (params : Params) → new_asks n (from x p ∷ []) q params ≡ record {
    fits = true;
    sizes = record { value = n; from = 1; to = 8 } ∷ [];
    lent = of_numbers x n ∷ of_numbers p (n * n) ∷ of_numbers q (n * n) ∷ [];
    formed = true;
    stale = false;
    fresh = false;
    inputs = record { name = State; numbers = take n x } ∷ record { name = Covariance; numbers = take (n * n) p } ∷ record { name = Noise; numbers = take (n * n) q } ∷ record { name = Lone; numbers = params.alpha ∷ params.beta ∷ params.kappa ∷ [] } ∷ [];
    plain = [];
    params = by_params n params ∷ [];
  }
  new_asks_lem n x p q params = refl

  pub new_exactly_when : (n : ℕ) (x p q : List Float) (params : Params) (r : Refusal) → ((new_answer f n x p q params).refusal ≡ verdict r) ↔ Due f (new_asks n (from x p ∷ []) q params) [] r
  new_exactly_when = new_exactly f

  pub new_taken_when : (n : ℕ) (x p q : List Float) (params : Params) → ((new_answer f n x p q params).refusal ≡ taken) ↔ ((d : Cause) → Applies f (new_asks n (from x p ∷ []) q params) [] d → ⊥)
  new_taken_when = new_taken f

  -- of its parts by themselves, a track, which asks for n, x and P, and a sheet, which asks for n, Q and the parameters,
  pub track_asks : (n : ℕ) (x p : List Float) → start_asks n (from x p) ≡ record {
    fits = true;
    sizes = record { value = n; from = 1; to = 8 } ∷ [];
    lent = of_numbers x n ∷ of_numbers p (n * n) ∷ [];
    formed = true;
    stale = false;
    fresh = false;
    inputs = record { name = State; numbers = take n x } ∷ record { name = Covariance; numbers = take (n * n) p } ∷ [];
    plain = [];
    params = [];
  }
  track_asks n x p = refl

  pub sheet_asks : (n : ℕ) (q : List Float) (params : Params) → new_asks n [] q params ≡ record {
    fits = true;
    sizes = record { value = n; from = 1; to = 8 } ∷ [];
    lent = of_numbers q (n * n) ∷ [];
    formed = true;
    stale = false;
    fresh = false;
    inputs = record { name = Noise; numbers = take (n * n) q } ∷ record { name = Lone; numbers = params.alpha ∷ params.beta ∷ params.kappa ∷ [] } ∷ [];
    plain = [];
    params = by_params n params ∷ [];
  }
  sheet_asks n q params = refl

  pub track_exactly_when : (n : ℕ) (s : Start) (r : Refusal) → ((new_track f n s).refusal ≡ verdict r) ↔ Due f (start_asks n s) [] r
  track_exactly_when = new_track_exactly f

  pub track_taken_when : (n : ℕ) (s : Start) → ((new_track f n s).refusal ≡ taken) ↔ ((d : Cause) → Applies f (start_asks n s) [] d → ⊥)
  track_taken_when = new_track_taken f

  pub sheet_exactly_when : (n : ℕ) (q : List Float) (params : Params) (r : Refusal) → ((new_sheet f n q params).refusal ≡ verdict r) ↔ Due f (new_asks n [] q params) [] r
  sheet_exactly_when = new_sheet_exactly f

  pub sheet_taken_when : (n : ℕ) (q : List Float) (params : Params) → ((new_sheet f n q params).refusal ≡ taken) ↔ ((d : Cause) → Applies f (new_asks n [] q params) [] d → ⊥)
  sheet_taken_when = new_sheet_taken f

  -- of load, which gives 2 under three bytes, and from there on goes by the table (what it asks, and what 12 means, in words: Records),
  pub load_exactly_when : (b : List ℕ) (r : Refusal) → ((load_answer f b).refusal ≡ verdict r) ↔ (((length b < 3) × (r ≡ SHORT)) ⊎ ((3 ≤ length b) × Due f (load_asks b) [] r))
  load_exactly_when = load_exactly f

  pub load_taken_when : (b : List ℕ) → ((load_answer f b).refusal ≡ taken) ↔ ((3 ≤ length b) × ((d : Cause) → Applies f (load_asks b) [] d → ⊥))
  load_taken_when = load_taken f

  -- of point k of a lent list, which asks for k up to 2n and for the whole list, and doesn't judge its numbers,
  pub point_asks_lem : (l : List Float) (n k : ℕ) → point_asks f l n k ≡ record {
    fits = true;
    sizes = record { value = n; from = 1; to = 8 } ∷ record { value = k; from = 0; to = n + n } ∷ [];
    lent = of_numbers l ((n + n + 1) * n) ∷ [];
    formed = true;
    stale = false;
    fresh = false;
    inputs = [];
    plain = [];
    params = [];
  }
  point_asks_lem l n k = refl

  pub point_exactly_when : (l : List Float) (n k : ℕ) (r : Refusal) → (point_refusal f l n k ≡ verdict r) ↔ Due f (point_asks f l n k) [] r
  point_exactly_when = point_exactly f

  pub point_taken_when : (l : List Float) (n k : ℕ) → (point_refusal f l n k ≡ taken) ↔ ((d : Cause) → Applies f (point_asks f l n k) [] d → ⊥)
  point_taken_when = point_taken f

  -- of the wrap: 56 at 0 exactly when d or h isn't finite, 6 exactly when both are finite and h isn't above 0 or 2h isn't finite, and no other number,
  pub wrap_exactly_when : (d h : Float) (r : Refusal)
      → (refusal (wrap_of f d h) ≡ verdict r) ↔ (((r ≡ bad_lone) × (NotFinite d ⊎ NotFinite h)) ⊎ ((r ≡ PARAM) × (NotFinite d ⊎ NotFinite h → ⊥) × (NotAbove h ⊎ NotFinite (add f h h))))
  wrap_exactly_when = wrap_exactly f

  pub wrap_taken_when : (d h : Float) → (refusal (wrap_of f d h) ≡ taken) ↔ ((NotFinite d ⊎ NotFinite h → ⊥) × (NotAbove h ⊎ NotFinite (add f h h) → ⊥))
  wrap_taken_when = wrap_taken f

  -- a refused wrap gives +0 (`shown`: the number that stands for what a wrap answers),
  pub refused_wrap : (d h : Float) → (refusal (wrap_of f d h)).number ≢ 0 → shown (wrap_of f d h) ≡ plus_zero
  refused_wrap = wrap_refused f

  -- of the root: 56 at 0 exactly when x isn't finite or is below zero, and no other number,
  pub root_exactly_when : (x : Float) (r : Refusal) → (refusal (root_outcome f x) ≡ verdict r) ↔ ((r ≡ bad_lone) × (NotFinite x ⊎ Below x))
  root_exactly_when = root_exactly f

  pub root_taken_when : (x : Float) → (refusal (root_outcome f x) ≡ taken) ↔ (NotFinite x ⊎ Below x → ⊥)
  root_taken_when = root_taken f

  -- and of the check of a kind: 56 at 0 exactly when it is a turn by a number that isn't finite, 6 exactly when it is a turn by a finite number that isn't above 0 or whose double isn't finite, and no other number. Setting a kind answers the same, once 3 and 1 are passed.
  pub kind_exactly_when : (k : Kind) (r : Refusal)
      → (refusal (kind_of f k) ≡ verdict r) ↔ (((r ≡ bad_lone) × BadTurn k) ⊎ ((r ≡ PARAM) × (BadTurn k → ⊥) × UnfitTurn f k))
  kind_exactly_when = kind_exactly f

  pub kind_taken_when : (k : Kind) → (refusal (kind_of f k) ≡ taken) ↔ ((BadTurn k → ⊥) × (UnfitTurn f k → ⊥))
  kind_taken_when = kind_taken f

  pub kind_set : (s : Filter) (i : ℕ) (k : Kind) → is_shut s.track.stage ≡ true → (1 ≤ s.sheet.n) × (s.sheet.n ≤ 8) → i < s.sheet.n → (step f s (writing (set_kind i k))).reply.refusal ≡ refusal (kind_of f k)
  kind_set = kind_checked f

  -- The code hands a step's filter, number and place back as they are, and so the number and place of a reading of values.
  pub handed_back : (t : Stepped) → ((answered t).filter ≡ t.filter) × ((answered t).refusal ≡ t.reply.refusal)
  handed_back t = (refl, refl)

  pub values_handed_back : (r : Reply) → ((params_read r).refusal ≡ r.refusal) × ((stale_read r).refusal ≡ r.refusal)
  values_handed_back r = (refl, refl)

  -- New, its parts, load, point k, the wrap, the root and the check of a kind end so too, with 0 at place 0 or with a refusal's number at its place, each being `refusal` of an outcome.
  pub so_do_the_others : {A : Type 0} (o : Outcome A) → (refusal o ≡ taken) ⊎ ((r : Refusal) × (refusal o ≡ verdict r))
  so_do_the_others = one_of

  -- So 3 is given exactly when the call doesn't fit what is open, and n outside 1 to 8 gets 1 from every call that 3 doesn't stop.
  pub stage_when : (s : Filter) (c : Call) → ((step f s c).reply.refusal ≡ verdict STAGE) ↔ (fits c s ≡ false)
  stage_when = stage_exactly f

  pub size_when : (s : Filter) (c : Call) → OutOfRange (record { value = s.sheet.n; from = 1; to = 8 }) → fits c s ≡ true → (step f s c).reply.refusal ≡ verdict SIZE
  size_when = states_first f

  -- 10 is given by the flat close alone, either way, and, with the whole list, exactly when a correction is so open, there are 1 to 8 states and 1 to 4 measurements, the slices are long enough and their numbers finite, and one of the first n kinds is a turn.
  pub kind_by_flat_alone : (s : Filter) (c : Call) → (step f s c).reply.refusal.number ≡ 10 → IsFlat c
  kind_by_flat_alone = kind_only f

  pub kind_when : (s : Filter) (m : ℕ) (z r observed : List Float) → ((step f s (closing (close_correction_flat m z r observed))).reply.refusal ≡ verdict KIND) ↔ (Measurable s m z r observed × Some IsTurn (take s.sheet.n s.sheet.kinds))
  kind_when = turned_away_exactly f

  -- 11 is given by save alone, and 12 by no call on a filter: load alone asks for bytes that have a form (`formed` is true in all that New, its parts and point k ask).
  pub fresh_by_save_alone : (s : Filter) (c : Call) → (step f s c).reply.refusal.number ≡ 11 → IsSave c
  fresh_by_save_alone = fresh_only f

  pub no_call_gives_12 : (s : Filter) (c : Call) → (step f s c).reply.refusal.number ≢ 12
  no_call_gives_12 = never_record f

  -- The flat close, either way, never gives 4 or 6: stale doesn't stop it, and nothing that it is lent has to pass 6.
  pub stepped_flat_correction_never : (s : Filter) (m : ℕ) (z r : List Float) → let k = (step f s (closing_stepped (close_correction_flat_stepped m z r))).reply.refusal.number in (k ≢ 4) × (k ≢ 6)
  stepped_flat_correction_never s m z r = let c = closing_stepped (close_correction_flat_stepped m z r) in (never_stale f s c refl, never_param f s c refl)

  pub flat_correction_never : (s : Filter) (m : ℕ) (z r observed : List Float) → let k = (step f s (closing (close_correction_flat m z r observed))).reply.refusal.number in (k ≢ 4) × (k ≢ 6)
  flat_correction_never s m z r observed = let c = closing (close_correction_flat m z r observed) in (never_stale f s c refl, never_param f s c refl)

  -- ---- one point at a time (document 02, A7)

  -- What the stepped calls ask, s being the filter as seen. The opens what the whole-list ones ask, but for the buffer;
  pub stepped_open_asks : (s : Filter) → let a : Asks = record { fits = is_shut s.track.stage; sizes = record { value = s.sheet.n; from = 1; to = 8 } ∷ []; lent = []; formed = true; stale = false; fresh = false; inputs = []; plain = []; params = [] } in
      (asks s (setting open_prediction_stepped) ≡ a) × (asks s (setting open_correction_stepped) ≡ a)
  stepped_open_asks s = (refl, refl)

  -- an ask that a stepped call is open with an image still to come, and room for n numbers;
  pub ask_asks : (s : Filter) (b : List Float) → asks s (stepping (ask b)) ≡ record {
    fits = is_stepped s.track.stage && leb s.track.kept.at (s.sheet.n + s.sheet.n);
    sizes = record { value = s.sheet.n; from = 1; to = 8 } ∷ [];
    lent = of_numbers b s.sheet.n ∷ [];
    formed = true;
    stale = false;
    fresh = false;
    inputs = [];
    plain = [];
    params = [];
  }
  ask_asks s b = refl

  -- an image the same of its own sort of call, that its point has been asked for, and finite numbers: n in a prediction,
  pub image_prediction_asks : (s : Filter) (v : List Float) → asks s (stepping (image_prediction v)) ≡ record {
    fits = is_predicting_stepped s.track.stage && (leb s.track.kept.at (s.sheet.n + s.sheet.n) && s.track.kept.asked);
    sizes = record { value = s.sheet.n; from = 1; to = 8 } ∷ [];
    lent = of_numbers v s.sheet.n ∷ [];
    formed = true;
    stale = false;
    fresh = false;
    inputs = record { name = Points; numbers = take s.sheet.n v } ∷ [];
    plain = [];
    params = [];
  }
  image_prediction_asks s v = refl

  -- m of 1 to 4 in a correction, the first image's where one has named it (`named`);
  pub image_correction_asks : (s : Filter) (m : ℕ) (v : List Float) → asks s (stepping (image_correction m v)) ≡ record {
    fits = is_correcting_stepped s.track.stage && (leb s.track.kept.at (s.sheet.n + s.sheet.n) && s.track.kept.asked);
    sizes = record { value = s.sheet.n; from = 1; to = 8 } ∷ record { value = m; from = 1; to = 4 } ∷ cond (eqb s.track.kept.m 0) [] (record { value = m; from = s.track.kept.m; to = s.track.kept.m } ∷ []);
    lent = of_numbers v m ∷ [];
    formed = true;
    stale = false;
    fresh = false;
    inputs = record { name = Points; numbers = take m v } ∷ [];
    plain = [];
    params = [];
  }
  image_correction_asks s m v = refl

  -- and a stepped close that its own sort of call is open with every image in, and no list: on any filter that the demands speak of the images that are in are no reason to refuse. Of a prediction that is all;
  pub stepped_prediction_asks : (s : Filter) → stepped_asks s close_prediction_stepped ≡ record {
    fits = is_predicting_stepped s.track.stage && not (leb s.track.kept.at (s.sheet.n + s.sheet.n));
    sizes = record { value = s.sheet.n; from = 1; to = 8 } ∷ [];
    lent = [];
    formed = true;
    stale = false;
    fresh = false;
    inputs = [];
    plain = [];
    params = [];
  }
  stepped_prediction_asks s = refl

  -- of a correction m as the first image's, and of z, R and its kinds what the whole-list close asks;
  pub stepped_correction_asks : (s : Filter) (m : ℕ) (z r : List Float) (kinds : List Kind) → stepped_asks s (close_correction_stepped m z r kinds) ≡ record {
    fits = is_correcting_stepped s.track.stage && not (leb s.track.kept.at (s.sheet.n + s.sheet.n));
    sizes = record { value = s.sheet.n; from = 1; to = 8 } ∷ named s.track.kept m ++ (record { value = m; from = 1; to = 4 } ∷ []);
    lent = of_numbers z m ∷ of_numbers r (m * m) ∷ [];
    formed = true;
    stale = false;
    fresh = false;
    inputs = record { name = Noise; numbers = take (m * m) r } ∷ record { name = Measurement; numbers = take m z } ∷ record { name = Lone; numbers = halves (take m kinds) } ∷ [];
    plain = [];
    params = as_kinds (take m kinds);
  }
  stepped_correction_asks s m z r kinds = refl

  pub stepped_flat_correction_asks : (s : Filter) (m : ℕ) (z r : List Float) → stepped_asks s (close_correction_flat_stepped m z r) ≡ record {
    fits = is_correcting_stepped s.track.stage && not (leb s.track.kept.at (s.sheet.n + s.sheet.n));
    sizes = record { value = s.sheet.n; from = 1; to = 8 } ∷ named s.track.kept m ++ (record { value = m; from = 1; to = 4 } ∷ []);
    lent = of_numbers z m ∷ of_numbers r (m * m) ∷ [];
    formed = true;
    stale = false;
    fresh = false;
    inputs = record { name = Noise; numbers = take (m * m) r } ∷ record { name = Measurement; numbers = take m z } ∷ record { name = Lone; numbers = [] } ∷ [];
    plain = take s.sheet.n s.sheet.kinds;
    params = [];
  }
  stepped_flat_correction_asks s m z r = refl

  pub stepped_close_exactly_when : {s : Filter} → Yielded f s → (c : SteppedClose) (r : Refusal) → ((step f s (closing_stepped c)).reply.refusal ≡ verdict r) ↔ Due f (stepped_asks (seen s) c) (planned (plan f (seen s) (closing_stepped c))) r
  stepped_close_exactly_when {s} y = stepped_exactly f s (sound f y)

  pub stepped_close_taken_when : {s : Filter} → Yielded f s → (c : SteppedClose) → ((step f s (closing_stepped c)).reply.refusal ≡ taken) ↔ ((d : Cause) → Applies f (stepped_asks (seen s) c) (planned (plan f (seen s) (closing_stepped c))) d → ⊥)
  stepped_close_taken_when {s} y = stepped_taken f s (sound f y)

  -- The steps of a stepped call are those of the whole-list one, of a close on the images; so its own numbers, 7, 8, 9 and the places beside them, come as below. (What else is said below of the whole-list opens and closes holds of the stepped ones by `open_is_whole` and `close_is_whole` in EitherWay.)
  pub listed_at_stepped_open : (s : Filter) (b : List Float) → (planned (plan f s (setting open_prediction_stepped)) ≡ planned (plan f s (setting (open_prediction b)))) × (planned (plan f s (setting open_correction_stepped)) ≡ planned (plan f s (setting (open_correction b))))
  listed_at_stepped_open s b = (open_prediction_stepped_lists f s ∙ sym (open_prediction_lists f s b), open_correction_stepped_lists f s ∙ sym (open_correction_lists f s b))

  pub listed_at_stepped_close : (s : Filter) (c : SteppedClose) → plan f s (closing_stepped c) ≡ plan f s (closing (with_list c s.track.kept.images))
  listed_at_stepped_close s c = refl

  -- ---- places (document 02, A5)

  -- 51 to 56 tell the place of the first number that isn't finite, of the first slice that has one (`FirstBad`): there is one where a number isn't finite, and one at the most;
  pub some_first_bad : (l : List Input) → Some (λ (x : Input). Some NotFinite x.numbers) l ↔ ((s : Slice) × (i : ℕ) × FirstBad s i l)
  some_first_bad = some_bad

  pub one_first_bad : {s t : Slice} {i j : ℕ} {l : List Input} → FirstBad s i l → FirstBad t j l → NUMBER s i ≡ NUMBER t j
  one_first_bad = one_bad

  -- what a call searches, in this order. A close of a correction: R, the observed points, z, and then the half-turns of its own kinds, of which the flat one has none. A call that sets, an image, and the close of a prediction: the one slice that it is lent, or its lone values. The opens, asks, abandon and the readings: nothing. (A stepped close is said to search the images that are in, as its steps read them; they are finite, so that it is R, z and the half-turns that it finds bad: `stepped_close_exactly_when`.)
  pub searched_by : (s : Filter) (c : Call) → (asks s c).inputs ≡ searches s c
  searched_by = searches_so

  -- That is slice after slice in the order of their numbers, and so does New search (New of a pair takes the second start right after the first: `new_asks_lem` in Pairs; load searches as New does, and then each half-turn by itself: `load_asks_lem` in Records);
  pub searched_in_turn : (s : Filter) (c : Call) → Ascending 50 (asks s c).inputs
  searched_in_turn s c = rw (searches_so s c) (ascending s c)

  pub new_searched_in_turn : (n : ℕ) (x p q : List Float) (params : Params) → Ascending 50 (new_asks n (from x p ∷ []) q params).inputs
  new_searched_in_turn n x p q params = (omega arith, (omega arith, (omega arith, (omega arith, tt))))

  -- So one of 51 to 56 is given at place i exactly when nothing is refused before the search (`Free`), and that is the slice and the place of the first bad number. (Opens search nothing; on a filter that the demands don't speak of one may give 56 at 0, for an N without a root: `opening_gives_neither` below.)
  pub number_when : (s : Filter) (c : Call) → (IsOpen c → ⊥) → (t : Slice) (i : ℕ) → ((step f s c).reply.refusal ≡ verdict (NUMBER t i)) ↔ (Free f 6 s c × FirstBad t i (searches s c))
  number_when = number_exactly f

  -- The first bad half-turn is told at the index of its own kind, the first that is a turn by a number that isn't finite: a plain one keeps its place. So a weighted close gives 56 at i exactly when a correction is open with the whole list, sizes are in range, the slices are long enough and their numbers finite (`Measurable`), and the first such kind of its first m is that at i.
  pub half_turn_place : (ks : List Kind) (i : ℕ) → FirstIn (halves ks) i ↔ FirstBadTurn ks i
  half_turn_place = turn_at

  pub half_turn_when : (s : Filter) (m : ℕ) (z r : List Float) (kinds : List Kind) (observed : List Float) (i : ℕ)
      → ((step f s (closing (close_correction m z r kinds observed))).reply.refusal ≡ verdict (NUMBER Lone i)) ↔ (Measurable s m z r observed × FirstBadTurn (take m kinds) i)
  half_turn_when = half_turn_exactly f

  -- 7 is given by the opens alone, and 8 by the closes of a correction alone.
  pub pivot_by_opens_alone : (s : Filter) (c : Call) → (step f s c).reply.refusal.number ≡ 7 → IsOpen c
  pivot_by_opens_alone = pivot_by_open f

  pub innov_by_corrections_alone : (s : Filter) (c : Call) → (step f s c).reply.refusal.number ≡ 8 → IsCorrection c
  innov_by_corrections_alone = innov_by_correction f

  -- 7 tells the row of the first bad pivot: the columns before it are right, so their pivots are good and their entries finite (else it would be 9), and it isn't finite or isn't above 0 (`BadPivot`). An open gives it exactly when nothing is refused before its steps and row j of P is that row; at the open of a correction the filter has to be stale, as points are drawn only then;
  pub pivot_at_open_prediction : (s : Filter) (b : List Float) (j : ℕ) → let c = setting (open_prediction b) in ((step f s c).reply.refusal ≡ verdict (PIVOT j)) ↔ (Free f 9 s c × BadPivot f s.track.p s.sheet.n j)
  pivot_at_open_prediction = prediction_pivot f

  pub pivot_at_open_correction : (s : Filter) (b : List Float) (j : ℕ) → let c = setting (open_correction b) in ((step f s c).reply.refusal ≡ verdict (PIVOT j)) ↔ (Free f 9 s c × ((s.track.stale ≡ true) × BadPivot f s.track.p s.sheet.n j))
  pivot_at_open_correction = correction_opened_pivot f

  -- 8 the same of S, by either close of a correction, once z mean, S, x mean and cross covariance are finite;
  pub pivot_at_correction : (s : Filter) (m : ℕ) (z r : List Float) (kinds : List Kind) (observed : List Float) (j : ℕ) → let c = closing (close_correction m z r kinds observed) in let h = weighted_from f (seen s) m z r kinds observed in
      ((step f s c).reply.refusal ≡ verdict (INNOV j)) ↔ (Free f 9 s c × ((Some Fails (listed_at_head f h) → ⊥) × BadPivot f h.s m j))
  pivot_at_correction = correction_closed_pivot f

  pub pivot_at_flat_correction : (s : Filter) (m : ℕ) (z r observed : List Float) (j : ℕ) → let c = closing (close_correction_flat m z r observed) in let h = flat_from f (seen s) m z r observed in
      ((step f s c).reply.refusal ≡ verdict (INNOV j)) ↔ (Free f 9 s c × ((Some Fails (listed_at_head f h) → ⊥) × BadPivot f h.s m j))
  pivot_at_flat_correction = flat_correction_pivot f

  -- and beside every other number stands place 0, whatever answers.
  pub no_other_place : (s : Filter) (c : Call) → Placed (step f s c).reply.refusal
  no_other_place s c = placed_so _ (ends_so f s c)

  pub nor_of_the_others : {A : Type 0} (o : Outcome A) → Placed (refusal o)
  nor_of_the_others = placed_of

  -- ---- the steps' own numbers: the first result that fails, of those that document 01 lists, in its order

  -- Open: each factor entry as it is made, then N, whose root is taken, then all points; not stale, an open correction has none.
  pub listed_at_open_prediction : (s : Filter) (b : List Float) → planned (plan f s (setting (open_prediction b))) ≡ listed_at_open f s.sheet.n s.track.x s.track.p (scale_of f s.sheet.n s.sheet.params)
  listed_at_open_prediction = open_prediction_lists f

  pub listed_at_open_correction : (s : Filter) (b : List Float) → planned (plan f s (setting (open_correction b))) ≡ cond s.track.stale (listed_at_open f s.sheet.n s.track.x s.track.p (scale_of f s.sheet.n s.sheet.params)) []
  listed_at_open_correction = open_correction_lists f

  -- Close prediction: mean, P.
  pub listed_at_prediction_lem : (s : Filter) (v : List Float)
      → planned (plan f s (closing (close_prediction v))) ≡ listed_at_prediction f s.sheet.n (front (point_numbers s.sheet.n) v (zeros 136)) (w0m_of f s.sheet.n s.sheet.params) s.track.drawn_weights s.sheet.kinds s.sheet.q
  listed_at_prediction_lem = close_prediction_lists f

  -- Close correction: z mean, S, x mean, cross covariance, then S's factor entries as made, inverse, gain, y, x, P.
  pub listed_at_correction_lem : (s : Filter) (m : ℕ) (z r : List Float) (kinds : List Kind) (observed : List Float)
      → planned (plan f s (closing (close_correction m z r kinds observed))) ≡ listed_at_correction f (weighted_from f s m z r kinds observed)
  listed_at_correction_lem = close_correction_lists f

  -- The flat close: the same results, of its own z mean, S, x mean and cross covariance. (What these are, in either close: Demand2.)
  pub listed_at_flat_correction : (s : Filter) (m : ℕ) (z r observed : List Float) → planned (plan f s (closing (close_correction_flat m z r observed))) ≡ listed_at_correction f (flat_from f s m z r observed)
  listed_at_flat_correction = close_correction_flat_lists f

  -- The steps of an open can give 7 and 9 alone, and 56 at 0 for an N without a root; those of a close of a correction 8 and 9 alone, of the close of a prediction 9 alone; other calls give nothing by steps;
  pub steps_give_their_own : (s : Filter) (c : Call) (r : Refusal) → FirstFails r (planned (plan f (seen s) c)) → ByStep c r
  steps_give_their_own = steps_give f

  -- so 9 is given by the opens and closes alone;
  pub range_by_steps_alone : (s : Filter) (c : Call) → (step f s c).reply.refusal.number ≡ 9 → IsOpen c ⊎ IsClose c
  range_by_steps_alone = range_by_steps f

  -- and opening, of whichever sort, gives none of 51 to 56 and not 6, on any filter that the demands speak of.
  pub opening_gives_neither : {s : Filter} → Yielded f s → {c : Call} → IsOpen c → Neither (step f s c).reply.refusal.number
  opening_gives_neither = opening_never f

  -- Measurement kinds from m up are not read: whatever stands there, the call is the same.
  pub kinds_from_m_unread : (s : Filter) (m : ℕ) (z r observed : List Float) (ks ls : List Kind) → m ≤ 4 → length ks ≡ 4 → length ls ≡ 4 → take m ks ≡ take m ls
      → step f s (closing (close_correction m z r ks observed)) ≡ step f s (closing (close_correction m z r ls observed))
  kinds_from_m_unread = kinds_unread f

  -- ---- what is refused

  -- A refused call leaves the filter and a lent buffer b, of numbers or of bytes, as they were (`over .. b` is what the contracts say of b at exit);
  pub refused_changes_nothing : (s : Filter) (c : Call) → (step f s c).reply.refusal.number ≢ 0 → ((step f s c).filter ≡ s) × ((b : List Float) → over (step f s c).reply.given b ≡ b) × ((b : List ℕ) → over (step f s c).reply.bytes b ≡ b)
  refused_changes_nothing = refused_unwritten f

  -- a refused reading of values answers +0, and stale;
  pub refused_reading : (s : Filter) (c : Call) → (step f s c).reply.refusal.number ≢ 0
      → ((params_read (step f s c).reply).params ≡ record { alpha = plus_zero; beta = plus_zero; kappa = plus_zero }) × ((stale_read (step f s c).reply).stale ≡ true)
  refused_reading = refused_values f

  -- a refused New and a refused load give the empty filter, a refused part of New that of the empty filter, and a refused point an empty part.
  pub refused_load : (b : List ℕ) → (load_answer f b).refusal.number ≢ 0 → (load_answer f b).filter ≡ empty
  refused_load = load_refused f

  pub refused_new : (n : ℕ) (x p q : List Float) (params : Params) → (new_answer f n x p q params).refusal.number ≢ 0 → (new_answer f n x p q params).filter ≡ empty
  refused_new = new_refused f

  pub refused_track : (n : ℕ) (s : Start) → (new_track f n s).refusal.number ≢ 0 → (new_track f n s).track ≡ empty_track
  refused_track = new_track_refused f

  pub refused_sheet : (n : ℕ) (q : List Float) (params : Params) → (new_sheet f n q params).refusal.number ≢ 0 → (new_sheet f n q params).sheet ≡ empty_sheet
  refused_sheet = new_sheet_refused f

  pub refused_point : (l : List Float) (n k : ℕ) → (point_refusal f l n k).number ≢ 0 → point_of f l n k ≡ []
  refused_point = point_refused f

  -- ---- every number is finite

  -- Every number handed out, and x and P after every call, over any run on any filter that the demands speak of;
  pub every_number_is_finite : (s : Filter) → Yielded f s → (cs : List Call) → Each (λ t. all_finite (handed_out t) ≡ true) (told f s cs)
  every_number_is_finite = all_handed_finite f

  -- such a filter is sound: finite where in use, +0 in unused places, its parameters and kinds past 56 and 6, kinds past its states plain, the weights that count those of its parameters, the points of an open call drawn from its x and P or the current ones (Settings has more on that), what a stepped call keeps up to 2n+1 finite images, one after the other, with +0 behind them;
  pub yielded_is_sound : {s : Filter} → Yielded f s → Sound f s
  yielded_is_sound = sound f

  -- and one that New, load and calls yield is tidy too: its points and weights are finite with +0 in unused places while stale, scratch is +0 while nothing is open, and nothing is kept but in a stepped call.
  pub reached_is_tidy : {s : Filter} → Reached f s → Sound f s × Tidy s
  reached_is_tidy = tidy f
