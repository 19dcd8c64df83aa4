-- What the lines of the table of calls have in common. A later call costs its line here. Assumes nothing.
use Prim.Native.Nat.{ℕ, ◌-◌, ◌<◌, ◌≤◌}
use mathlib.Core.Path.{◌≡◌, refl, sym, ap, ◌∙◌, subst}
use mathlib.Core.Bool.{Bool, true, false, ◌&&◌, cond}
use mathlib.Core.List.{List, [], ◌∷◌}
use mathlib.Core.Logic.{◌↔◌, ◌≢◌, ◌⊎◌, inl, inr, ⊎_elim}
use native.Mathlib.Omega.{arith}
use lib.Ieee.{Float, Format}
use lib.Ieee.Scale.{finite}
use Rattle.floats.specs.declared.Refusal.{Refusal}
use Rattle.floats.specs.declared.Refusal.TheVariants.{Size as SIZE, Short as SHORT, Stage as STAGE, Stale as STALE, Number as NUMBER, Param as PARAM, Pivot as PIVOT, Innovation as INNOV, Range as RANGE, Kind as KIND, Fresh as FRESH, Record as RECORD}
use Rattle.floats.specs.Refusal.{bad_lone, verdict, accepted, refusal, unless, onward, nothing}
use Rattle.floats.specs.Search.{searched, searched_from}
use Rattle.floats.proofs.Refusals.{number_of, named}
use Rattle.floats.specs.Numbers.{zeros}
use Rattle.floats.specs.Fronts.{front}
use Rattle.angles.specs.Kinds.{half_of, passes, kind_of}
use Rattle.angles.specs.Kinds.{Kind}
use Rattle.matrix.specs.Results.{Result, run, planned}
use Rattle.sigma.specs.Draw.{point_numbers}
use Rattle.correction.specs.Correct.{apply_plan}
use Rattle.filter.specs.Types.{Filter}
use Rattle.filter.specs.Asked.{Size, within, in_order, guarded}
use Rattle.filter.specs.Types.{Kept}
use Rattle.filter.specs.Filters.{is_shut, seen, Writing, Setting, Closing, Change, writes, sets, closes, keeps, abandons, reads}
use Rattle.filter.specs.Calls.{set_x, set_p, set_q, set_params, set_kind, open_prediction, open_correction, open_prediction_stepped, open_correction_stepped, ask, image_prediction, image_correction, CloseCall, close_prediction, close_correction, close_correction_flat, close_prediction_stepped, close_correction_stepped, close_correction_flat_stepped, with_list, read_x, read_p, read_q, read_points, read_params, read_stale, save, Call, writing, setting, stepping, closing, closing_stepped, abandon, reading, fits, close_needs, asks, Done, closed, plan, weighted_from, flat_from}
use Rattle.filter.specs.Steps.{step}
use Rattle.filter.proofs.Closing.{predicting}
use Rattle.stepped.proofs.Seen.{fits_seen}
use Rattle.stepped.proofs.Ways.{images_seen}
use Rattle.demands.specs.Rows.{Some, here, OutOfRange, close_searches, searches, Ascending, IsTurn, of_prediction, of_correction, of_prediction_stepped, of_correction_stepped, of_either, of_stepped, by_weights, by_averages, by_weights_stepped, by_averages_stepped, IsFlat, flat, flat_stepped, IsSave, saves, FirstFails, Cause, stage, size, short, form, stale, fresh, kind, param, met, gives, Applies, rank, ByStep}
use Rattle.demands.specs.Rows as Row
use Rattle.demands.specs.Sound.{end, and}
use Rattle.demands.proofs.Rows.{two_ways, passes_where, none, ranged}
use Rattle.demands.proofs.Exactly.{step_told, exactly, as_refused}
use Rattle.demands.proofs.Passed.{Ran, ran_finish, ran_mapped, ran_either}
use Rattle.demands.proofs.Listed.{drawing, open_prediction_lists, open_correction_lists, open_prediction_stepped_lists, open_correction_stepped_lists, close_prediction_lists, close_correction_lists, close_correction_flat_lists}
use Rattle.demands.proofs.ByStep.{StepsOwn, met_by_step, draw_own, correct_own}

-- the change that a call makes is one of its own sort
abbrev pub Own : Call → Change → Type 0
Own (writing c) d = (u : Writing) × (d ≡ writes u)
Own (setting c) d = (u : Setting) × (d ≡ sets u)
Own (stepping c) d = (u : Kept) × (d ≡ keeps u)
Own (closing c) d = (u : Closing) × (d ≡ closes u)
Own (closing_stepped c) d = (u : Closing) × (d ≡ closes u)
Own abandon d = d ≡ abandons
Own (reading c) d = d ≡ reads

-- a call asks that it fits what is open and that there are 1 to 8 states; no kind has to be plain but in a flat close, either way, and only save asks for a stale filter; its steps give what is theirs; and it makes a change of its own sort
pub record Regular (f : Format) (s : Filter) (c : Call) : Type 0 where
  pub fitting : (asks s c).fits ≡ fits c s
  pub others : List Size
  pub states : (asks s c).sizes ≡ record { value = s.sheet.n; from = 1; to = 8 } ∷ others
  pub only : Some IsTurn (asks s c).plain → IsFlat c
  pub stale_only : (asks s c).fresh ≡ true → IsSave c
  pub met : StepsOwn c (planned (plan f s c))
  pub change : Ran (plan f s c) (λ (d : Done). Own c d.change)

own_either : (c : Call) (t : Bool) {vs : List Result} → StepsOwn c vs → StepsOwn c (cond t vs [])
own_either c true e = e
own_either c false e = end

module _ (f : Format) (s : Filter) where
  lined : {c : Call} {others : List Size} → (asks s c).fits ≡ fits c s → (asks s c).sizes ≡ record { value = s.sheet.n; from = 1; to = 8 } ∷ others → ((asks s c).plain ≡ []) ⊎ IsFlat c → ((asks s c).fresh ≡ false) ⊎ IsSave c → StepsOwn c (planned (plan f s c))
      → Ran (plan f s c) (λ (d : Done). Own c d.change) → Regular f s c
  lined {c} {others} a b k u m d = record { fitting = a; others = others; states = b; only = λ w. ⊎_elim (λ e. absurd (none (subst (Some IsTurn) e w))) (λ y. y) k; stale_only = λ w. ⊎_elim (λ e. absurd (two_ways w e)) (λ y. y) u; met = m; change = d }

  pub regular : (c : Call) → Regular f s c
  regular (writing (set_q v)) = lined refl refl (inl refl) (inl refl) end (ran_finish _ _ (_, refl))
  regular (writing (set_params p)) = lined refl refl (inl refl) (inl refl) end (ran_finish _ _ (_, refl))
  regular (writing (set_kind i k)) = lined refl refl (inl refl) (inl refl) end (ran_finish _ _ (_, refl))
  regular (setting (set_x v)) = lined refl refl (inl refl) (inl refl) end (ran_finish _ _ (_, refl))
  regular (setting (set_p v)) = lined refl refl (inl refl) (inl refl) end (ran_finish _ _ (_, refl))
  regular (setting (open_prediction b)) = lined refl refl (inl refl) (inl refl) (rw (open_prediction_lists f s b) (draw_own _ f of_prediction s.sheet.n _ _ _)) (ran_mapped _ _ (drawing f s) (λ a e. (_, refl)))
  regular (setting (open_correction b)) = lined refl refl (inl refl) (inl refl) (rw (open_correction_lists f s b) (own_either _ s.track.stale (draw_own _ f of_correction s.sheet.n _ _ _))) (ran_either _ s.track.stale _ _ (λ t. ran_mapped _ _ (drawing f s) (λ a e. (_, refl))) (λ t. ran_finish _ _ (_, refl)))
  regular (setting open_prediction_stepped) = lined refl refl (inl refl) (inl refl) (rw (open_prediction_stepped_lists f s) (draw_own _ f of_prediction_stepped s.sheet.n _ _ _)) (ran_mapped _ _ (drawing f s) (λ a e. (_, refl)))
  regular (setting open_correction_stepped) = lined refl refl (inl refl) (inl refl) (rw (open_correction_stepped_lists f s) (own_either _ s.track.stale (draw_own _ f of_correction_stepped s.sheet.n _ _ _))) (ran_either _ s.track.stale _ _ (λ t. ran_mapped _ _ (drawing f s) (λ a e. (_, refl))) (λ t. ran_finish _ _ (_, refl)))
  regular (stepping (ask b)) = lined refl refl (inl refl) (inl refl) end (ran_finish _ _ (_, refl))
  regular (stepping (image_prediction v)) = lined refl refl (inl refl) (inl refl) end (ran_finish _ _ (_, refl))
  regular (stepping (image_correction m v)) = lined refl refl (inl refl) (inl refl) end (ran_finish _ _ (_, refl))
  regular (closing (close_prediction v)) = lined refl refl (inl refl) (inl refl) (rw (close_prediction_lists f s v) (and (inr of_either) (and (inr of_either) end))) (ran_mapped _ (closed s.track.drawn_weights (front (point_numbers s.sheet.n) v (zeros 136)) false) (predicting f s v) (λ a e. (_, refl)))
  regular (closing (close_correction m z r kinds observed)) = lined refl refl (inl refl) (inl refl) (rw (close_correction_lists f s m z r kinds observed) (correct_own _ f of_either by_weights (weighted_from f s m z r kinds observed))) (ran_mapped _ (closed s.track.drawn_weights s.track.drawn_points true) (apply_plan f (weighted_from f s m z r kinds observed)) (λ a e. (_, refl)))
  regular (closing (close_correction_flat m z r observed)) = lined refl refl (inr flat) (inl refl) (rw (close_correction_flat_lists f s m z r observed) (correct_own _ f of_either by_averages (flat_from f s m z r observed))) (ran_mapped _ (closed s.track.drawn_weights s.track.drawn_points true) (apply_plan f (flat_from f s m z r observed)) (λ a e. (_, refl)))
  regular (closing_stepped close_prediction_stepped) = lined refl refl (inl refl) (inl refl) (rw (close_prediction_lists f s s.track.kept.images) (and (inr of_stepped) (and (inr of_stepped) end))) (ran_mapped _ (closed s.track.drawn_weights (front (point_numbers s.sheet.n) s.track.kept.images (zeros 136)) false) (predicting f s s.track.kept.images) (λ a e. (_, refl)))
  regular (closing_stepped (close_correction_stepped m z r kinds)) = let h = weighted_from f s m z r kinds s.track.kept.images in lined refl refl (inl refl) (inl refl) (rw (close_correction_lists f s m z r kinds s.track.kept.images) (correct_own _ f of_stepped by_weights_stepped h)) (ran_mapped _ (closed s.track.drawn_weights s.track.drawn_points true) (apply_plan f h) (λ a e. (_, refl)))
  regular (closing_stepped (close_correction_flat_stepped m z r)) = let h = flat_from f s m z r s.track.kept.images in lined refl refl (inr flat_stepped) (inl refl) (rw (close_correction_flat_lists f s m z r s.track.kept.images) (correct_own _ f of_stepped by_averages_stepped h)) (ran_mapped _ (closed s.track.drawn_weights s.track.drawn_points true) (apply_plan f h) (λ a e. (_, refl)))
  regular abandon = lined refl refl (inl refl) (inl refl) end (ran_finish _ _ refl)
  regular (reading (read_x b)) = lined refl refl (inl refl) (inl refl) end (ran_finish _ _ refl)
  regular (reading (read_p b)) = lined refl refl (inl refl) (inl refl) end (ran_finish _ _ refl)
  regular (reading (read_q b)) = lined refl refl (inl refl) (inl refl) end (ran_finish _ _ refl)
  regular (reading (read_points b)) = lined refl refl (inl refl) (inl refl) end (ran_finish _ _ refl)
  regular (reading read_params) = lined refl refl (inl refl) (inl refl) end (ran_finish _ _ refl)
  regular (reading read_stale) = lined refl refl (inl refl) (inl refl) end (ran_finish _ _ refl)
  regular (reading (save b)) = lined refl refl (inl refl) (inr saves) end (ran_finish _ _ refl)

-- what a call searches
close_searches_so : (s : Filter) (c : CloseCall) → (close_needs s.sheet c).inputs ≡ close_searches s.sheet.n c
close_searches_so s (close_prediction v) = refl
close_searches_so s (close_correction m z r kinds observed) = refl
close_searches_so s (close_correction_flat m z r observed) = refl

pub searches_so : (s : Filter) (c : Call) → (asks s c).inputs ≡ searches s c
searches_so s (writing (set_q v)) = refl
searches_so s (writing (set_params p)) = refl
searches_so s (writing (set_kind i k)) = refl
searches_so s (setting (set_x v)) = refl
searches_so s (setting (set_p v)) = refl
searches_so s (setting (open_prediction b)) = refl
searches_so s (setting (open_correction b)) = refl
searches_so s (setting open_prediction_stepped) = refl
searches_so s (setting open_correction_stepped) = refl
searches_so s (stepping (ask b)) = refl
searches_so s (stepping (image_prediction v)) = refl
searches_so s (stepping (image_correction m v)) = refl
searches_so s (closing c) = close_searches_so s c
searches_so s (closing_stepped c) = close_searches_so s (with_list c s.track.kept.images)
searches_so s abandon = refl
searches_so s (reading (read_x b)) = refl
searches_so s (reading (read_p b)) = refl
searches_so s (reading (read_q b)) = refl
searches_so s (reading (read_points b)) = refl
searches_so s (reading read_params) = refl
searches_so s (reading read_stale) = refl
searches_so s (reading (save b)) = refl

-- what is kept of images is searched where it is seen
pub images_searched : (s : Filter) (c : Call) → fits c s ≡ true → searches (seen s) c ≡ searches s c
images_searched s (closing_stepped c) h = ap (λ (v : List Float). close_searches s.sheet.n (with_list c v)) (images_seen s c h)
images_searched s (writing (set_q v)) h = refl
images_searched s (writing (set_params p)) h = refl
images_searched s (writing (set_kind i k)) h = refl
images_searched s (setting (set_x v)) h = refl
images_searched s (setting (set_p v)) h = refl
images_searched s (setting (open_prediction b)) h = refl
images_searched s (setting (open_correction b)) h = refl
images_searched s (setting open_prediction_stepped) h = refl
images_searched s (setting open_correction_stepped) h = refl
images_searched s (stepping (ask b)) h = refl
images_searched s (stepping (image_prediction v)) h = refl
images_searched s (stepping (image_correction m v)) h = refl
images_searched s (closing c) h = refl
images_searched s abandon h = refl
images_searched s (reading c) h = refl

-- slice after slice in the order of their numbers
close_ascending : (n : ℕ) (c : CloseCall) → Ascending 50 (close_searches n c)
close_ascending n (close_prediction v) = (omega arith, tt)
close_ascending n (close_correction m z r kinds observed) = (omega arith, (omega arith, (omega arith, (omega arith, tt))))
close_ascending n (close_correction_flat m z r observed) = (omega arith, (omega arith, (omega arith, (omega arith, tt))))

pub ascending : (s : Filter) (c : Call) → Ascending 50 (searches s c)
ascending s (writing (set_q v)) = (omega arith, tt)
ascending s (writing (set_params p)) = (omega arith, tt)
ascending s (writing (set_kind i k)) = (omega arith, tt)
ascending s (setting (set_x v)) = (omega arith, tt)
ascending s (setting (set_p v)) = (omega arith, tt)
ascending s (setting (open_prediction b)) = tt
ascending s (setting (open_correction b)) = tt
ascending s (setting open_prediction_stepped) = tt
ascending s (setting open_correction_stepped) = tt
ascending s (stepping (ask b)) = tt
ascending s (stepping (image_prediction v)) = (omega arith, tt)
ascending s (stepping (image_correction m v)) = (omega arith, tt)
ascending s (closing c) = close_ascending s.sheet.n c
ascending s (closing_stepped c) = close_ascending s.sheet.n (with_list c s.track.kept.images)
ascending s abandon = tt
ascending s (reading c) = tt

-- ---- so of every call

-- the row of a refusal; those that steps alone give have none of their own
abbrev pub row : Refusal → Cause
row SIZE = size
row SHORT = short
row STAGE = stage
row RECORD = form
row STALE = stale
row FRESH = fresh
row (NUMBER s i) = Row.number s i
row KIND = kind
row PARAM = param
row (PIVOT j) = met (PIVOT j)
row (INNOV j) = met (INNOV j)
row RANGE = met RANGE

module _ (f : Format) (s : Filter) (c : Call) where
  abbrev results : List Result
  results = planned (plan f (seen s) c)

  abbrev pub Asked : Cause → Type 0
  Asked = Applies f (asks (seen s) c) results

  -- the steps give what is theirs alone
  pub steps_give : (r : Refusal) → FirstFails r results → ByStep c r
  steps_give r w = met_by_step c (regular f (seen s) c).met w

  -- the row of r applies, and none before it
  abbrev pub ByRow : Refusal → Type 0
  ByRow r = Asked (row r) × ((d : Cause) → rank d < rank (row r) → Asked d → ⊥)

  -- a number that no step gives is given by its row
  pub by_row : (r : Refusal) → (ByStep c r → ⊥) → (step f s c).reply.refusal ≡ verdict r → ByRow r
  by_row r n e = let d = (exactly f s c r).0 e in go d.cause d.gives_it d.applies d.no_earlier
    where
      go : (d : Cause) → gives d ≡ r → Asked d → ((b : Cause) → rank b < rank d → Asked b → ⊥) → ByRow r
      go stage e x w = subst ByRow e (x, w)
      go size e x w = subst ByRow e (x, w)
      go short e x w = subst ByRow e (x, w)
      go form e x w = subst ByRow e (x, w)
      go stale e x w = subst ByRow e (x, w)
      go fresh e x w = subst ByRow e (x, w)
      go (Row.number t i) e x w = subst ByRow e (x, w)
      go kind e x w = subst ByRow e (x, w)
      go param e x w = subst ByRow e (x, w)
      go (met q) e x w = absurd (n (steps_give r (rw e at x)))

  -- 3 is given exactly when the call doesn't fit what is open
  pub stage_exactly : ((step f s c).reply.refusal ≡ verdict STAGE) ↔ (fits c s ≡ false)
  stage_exactly =
      let line = regular f (seen s) c in (
        λ e. sym (fits_seen s c) ∙ sym line.fitting ∙ (by_row STAGE (λ b. b) e).0,
        λ h. (exactly f s c STAGE).1 (record { cause = stage; gives_it = refl; applies = line.fitting ∙ fits_seen s c ∙ h; no_earlier = λ d l x. absurd (omega arith) }),
      )

  -- so a call that is taken fits
  pub taken_fits : (step f s c).reply.refusal.number ≡ 0 → fits c s ≡ true
  taken_fits e = go (fits c s) refl
    where
      go : (t : Bool) → fits c s ≡ t → t ≡ true
      go true h = refl
      go false h = absurd (let z : ◌≡◌ {A = ℕ} 3 0 = sym (number_of (stage_exactly.1 h)) ∙ e in omega arith)

  -- 10 is given by a flat close alone, either way
  pub kind_only : (step f s c).reply.refusal.number ≡ 10 → IsFlat c
  unfolding named
  kind_only e = (regular f (seen s) c).only (by_row KIND (λ b. b) (as_refused f s c (omega arith) e).1).0

  -- 11 is given by save alone, and 12 by no call on a filter
  pub fresh_only : (step f s c).reply.refusal.number ≡ 11 → IsSave c
  unfolding named
  fresh_only e = (regular f (seen s) c).stale_only (by_row FRESH (λ b. b) (as_refused f s c (omega arith) e).1).0

  pub never_record : (step f s c).reply.refusal.number ≢ 12
  unfolding named
  never_record e = two_ways refl (by_row RECORD (λ b. b) (as_refused f s c (omega arith) e).1).0

  -- 4 is never given by a call that stale doesn't stop, nor 6 where nothing has to pass it
  pub never_stale : (asks (seen s) c).stale ≡ false → (step f s c).reply.refusal.number ≢ 4
  unfolding named
  never_stale h e = two_ways (by_row STALE (λ b. b) (as_refused f s c (omega arith) e).1).0 h

  pub never_param : (asks (seen s) c).params ≡ [] → (step f s c).reply.refusal.number ≢ 6
  unfolding named
  never_param h e = none (rw h at by_row PARAM (λ b. b) (as_refused f s c (omega arith) e).1).0

  -- 1 is given for n outside 1 to 8, by every call that 3 doesn't stop
  pub states_first : OutOfRange (record { value = s.sheet.n; from = 1; to = 8 }) → fits c s ≡ true → (step f s c).reply.refusal ≡ verdict SIZE
  states_first o h =
      let line = regular f (seen s) c in
      (exactly f s c SIZE).1 (record { cause = size; gives_it = refl; applies = rw line.states (here o); no_earlier = λ d l x. absurd (early d l x (line.fitting ∙ fits_seen s c ∙ h)) })
    where
      early : (d : Cause) → rank d < 1 → Asked d → (asks (seen s) c).fits ≡ true → ⊥
      early stage l x t = two_ways t x
      early size l x t = absurd (omega arith)
      early short l x t = absurd (omega arith)
      early form l x t = absurd (omega arith)
      early stale l x t = absurd (omega arith)
      early fresh l x t = absurd (omega arith)
      early (Row.number v i) l x t = absurd (omega arith)
      early kind l x t = absurd (omega arith)
      early param l x t = absurd (omega arith)
      early (met r) l x t = absurd (omega arith)

-- setting a kind answers what the check of the kind does, once 3 and 1 are passed
pub kind_checked : (f : Format) (s : Filter) (i : ℕ) (k : Kind) → is_shut s.track.stage ≡ true → (1 ≤ s.sheet.n) × (s.sheet.n ≤ 8) → i < s.sheet.n → (step f s (writing (set_kind i k))).reply.refusal ≡ refusal (kind_of f k)
unfolding guarded in_order searched searched_from run
kind_checked f s i k h w l = step_told f s (writing (set_kind i k)) ∙ rw (h, states, index) (go _ (finite (half_of k)) (passes f k))
  where
    states : within (record { value = s.sheet.n; from = 1; to = 8 }) ≡ true
    states = passes_where (ranged _) (⊎_elim (λ b. omega arith) (λ b. omega arith))

    index : within (record { value = i; from = 0; to = s.sheet.n - 1 }) ≡ true
    index = passes_where (ranged _) (⊎_elim (λ b. omega arith) (λ b. omega arith))

    go : (d : Done) (t u : Bool) → refusal (onward (onward (unless t bad_lone nothing) (λ (x : Bool). nothing)) (λ (x : Bool). unless (u && true) PARAM (accepted d))) ≡ refusal (unless t bad_lone (unless u PARAM (accepted k)))
    go d true true = refl
    go d true false = refl
    go d false u = refl
