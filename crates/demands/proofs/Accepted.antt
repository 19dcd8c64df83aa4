-- What an accepted call leaves. A close: x and P as its steps have made them, the points and the opened weights installed, the stale mark, nothing open and scratch at +0. An open: what it has drawn, beside the filter as it was. A setting: its change. Assumes nothing.
use Prim.Native.Nat.{ℕ, ◌*◌}
use mathlib.Core.Path.{◌≡◌, refl, sym, ap, ◌∙◌}
use mathlib.Core.Bool.{Bool, true, false, ◌||◌}
use mathlib.Core.List.{List, []}
use native.Mathlib.Omega.{arith}
use lib.ListN.{take, drop}
use lib.Ieee.{Float, Format}
use Rattle.floats.specs.declared.Refusal.{Refusal}
use Rattle.floats.specs.Refusal.{Outcome, refused, accepted}
use Rattle.floats.proofs.Refusals.{number_above}
use Rattle.angles.specs.Kinds.{Kind}
use Rattle.matrix.specs.Results.{Plan, finish, run, mapped}
use Rattle.sigma.specs.Predict.{Moment}
use Rattle.sigma.specs.Weights.{weights_of}
use Rattle.correction.specs.Correct.{apply_plan}
use Rattle.filter.specs.Types.{Filter}
use Rattle.filter.specs.Filters.{is_predicting_stepped, is_correcting_stepped, is_stepped, seen, Writing, q_set, params_set, kinds_set, Setting, x_set, p_set, opened_prediction, opened_correction, opened_prediction_stepped, opened_correction_stepped, Change, writes, sets, keeps, changed, closed_with}
use Rattle.filter.specs.Calls.{SheetCall, set_q, set_params, set_kind, SetCall, set_x, set_p, Call, writing, setting, stepping, ask, image_prediction, image_correction, closing, closing_stepped, open_prediction, open_correction, open_prediction_stepped, open_correction_stepped, close_prediction, close_correction, close_correction_flat, SteppedClose, close_prediction_stepped, close_correction_stepped, close_correction_flat_stepped, with_list, asks, Done, done, writing_of, asked_for, handed_in, opened, opened_stepped, closed, draws, close_plan, plan, weighted_from, flat_from}
use Rattle.filter.specs.Steps.{Stepped, stepped, step}
use Rattle.filter.proofs.Closing.{propagated_of, predicting, predicting_is, correcting_is, correcting_flat_is}
use Rattle.filter.proofs.Sizes.{and_left}
use Rattle.stepped.proofs.Seen.{asked_is, predicted_is, observed_is}
use Rattle.stepped.proofs.Ways.{planned_whole}
use Rattle.demands.specs.Listed.{state, covariance}
use Rattle.demands.specs.Settings.{sheet_marks, marks}
use Rattle.demands.proofs.Passed.{by_cases, Ran, run_cases, ran_finish, ran_mapped, mapped_ran, made, ran_made}
use Rattle.demands.proofs.Listed.{drawing}
use Rattle.demands.proofs.Table.{taken_fits}
use Rattle.demands.proofs.Leftover.{step_cases}

module _ (f : Format) (s : Filter) where
  -- a call that is taken: its plan is accepted, and it does what that has made
  taken_ran : (c : Call) → (step f s c).reply.refusal.number ≡ 0 → (d : Done) × (run (plan f (seen s) c) ≡ accepted d) × (step f s c ≡ stepped s (accepted d))
  unfolding step
  taken_ran c = by_cases P never f (asks (seen s) c) (run (plan f (seen s) c)) (λ p. run_cases (λ (d : Done). run (plan f (seen s) c) ≡ accepted d) P never (plan f (seen s) c) (λ d e. e) (λ d e z. (d, e, refl)))
    where
      P : Outcome Done → Type 0
      P o = (stepped s o).reply.refusal.number ≡ 0 → (d : Done) × (run (plan f (seen s) c) ≡ accepted d) × (stepped s o ≡ stepped s (accepted d))

      never : (r : Refusal) → P (refused r)
      never r e = absurd (omega (arith, number_above r))

  -- the same where the plan is accepted with d alone
  pub taken_step : (c : Call) (d : Done) → Ran (plan f (seen s) c) (λ (a : Done). a ≡ d) → (step f s c).reply.refusal.number ≡ 0 → step f s c ≡ stepped s (accepted d)
  taken_step c d h e = let t = taken_ran c e in t.2 ∙ ap (λ (x : Done). stepped s (accepted x)) (h t.0 t.1)

  -- ---- closes

  -- a close that installs the points v once its steps p are done
  closed_as : (c : Call) (v : List Float) (stale : Bool) (p : Plan Moment) → plan f (seen s) c ≡ mapped (closed s.track.drawn_weights v stale) p → (step f s c).reply.refusal.number ≡ 0 → (step f s c).filter ≡ closed_with s v stale (made p).x (made p).p
  closed_as c v stale p is e =
      let g = closed s.track.drawn_weights v stale in
      ap (λ (t : Stepped). t.filter) (taken_step c (g (made p)) (rw is (ran_mapped _ g p (λ a k. ap g (ran_made p a k)))) e)

  pub prediction_closed : (v : List Float) → let c = closing (close_prediction v) in (step f s c).reply.refusal.number ≡ 0
      → (step f s c).filter ≡ (let m = made (predicting f s v) in closed_with s (propagated_of f s v) false m.x m.p)
  prediction_closed v e = let c = closing (close_prediction v) in closed_as c (propagated_of f s v) false (predicting f s v) (predicting_is f s v (taken_fits f s c e)) e

  -- a correction, weighted and flat
  pub correction_closed : (m : ℕ) (z r : List Float) (kinds : List Kind) (observed : List Float) → let c = closing (close_correction m z r kinds observed) in (step f s c).reply.refusal.number ≡ 0
      → (step f s c).filter ≡ (let h = weighted_from f s m z r kinds observed in closed_with s s.track.drawn_points true (state f h) (covariance f h))
  correction_closed m z r kinds observed e =
      let c = closing (close_correction m z r kinds observed) in
      closed_as c s.track.drawn_points true (apply_plan f (weighted_from f s m z r kinds observed)) (correcting_is f s m z r kinds observed (taken_fits f s c e)) e

  pub flat_correction_closed : (m : ℕ) (z r observed : List Float) → let c = closing (close_correction_flat m z r observed) in (step f s c).reply.refusal.number ≡ 0
      → (step f s c).filter ≡ (let h = flat_from f s m z r observed in closed_with s s.track.drawn_points true (state f h) (covariance f h))
  flat_correction_closed m z r observed e =
      let c = closing (close_correction_flat m z r observed) in
      closed_as c s.track.drawn_points true (apply_plan f (flat_from f s m z r observed)) (correcting_flat_is f s m z r observed (taken_fits f s c e)) e

  -- what a stepped close has closed with: the images that are in
  abbrev pub ClosedOn : SteppedClose → Type 0
  ClosedOn close_prediction_stepped = let i = s.track.kept.images in (step f s (closing_stepped close_prediction_stepped)).filter ≡ (let m = made (predicting f s i) in closed_with s (propagated_of f s i) false m.x m.p)
  ClosedOn (close_correction_stepped m z r kinds) = (step f s (closing_stepped (close_correction_stepped m z r kinds))).filter ≡ (let h = weighted_from f s m z r kinds s.track.kept.images in closed_with s s.track.drawn_points true (state f h) (covariance f h))
  ClosedOn (close_correction_flat_stepped m z r) = (step f s (closing_stepped (close_correction_flat_stepped m z r))).filter ≡ (let h = flat_from f s m z r s.track.kept.images in closed_with s s.track.drawn_points true (state f h) (covariance f h))

  whole_plan : (c : SteppedClose) → (step f s (closing_stepped c)).reply.refusal.number ≡ 0 → plan f (seen s) (closing_stepped c) ≡ close_plan f s (with_list c s.track.kept.images)
  whole_plan c e = planned_whole f s c (taken_fits f s (closing_stepped c) e)

  pub stepped_closed : (c : SteppedClose) → (step f s (closing_stepped c)).reply.refusal.number ≡ 0 → ClosedOn c
  stepped_closed close_prediction_stepped e = let i = s.track.kept.images in closed_as (closing_stepped close_prediction_stepped) (propagated_of f s i) false (predicting f s i) (whole_plan close_prediction_stepped e) e
  stepped_closed (close_correction_stepped m z r kinds) e = closed_as (closing_stepped (close_correction_stepped m z r kinds)) s.track.drawn_points true (apply_plan f (weighted_from f s m z r kinds s.track.kept.images)) (whole_plan (close_correction_stepped m z r kinds) e) e
  stepped_closed (close_correction_flat_stepped m z r) e = closed_as (closing_stepped (close_correction_flat_stepped m z r)) s.track.drawn_points true (apply_plan f (flat_from f s m z r s.track.kept.images)) (whole_plan (close_correction_flat_stepped m z r) e) e

  -- ---- the steps of a stepped call

  -- asked for: the point after the images that are in
  abbrev pub point_asked : Done
  point_asked = done (keeps (asked_for s.track.kept)) (take s.sheet.n (drop (s.track.kept.at * s.sheet.n) s.track.drawn_points))

  -- handed in, an image of d numbers: it stands after them
  abbrev pub image_in : ℕ → ℕ → List Float → Done
  image_in m d v = done (keeps (handed_in s.track.kept m d v)) []

  -- of a step whose plan is at its end
  finished : (c : Call) (d : Done) → plan f (seen s) c ≡ finish d → Ran (plan f (seen s) c) (λ (x : Done). x ≡ d)
  finished c d e = rw e (ran_finish _ d refl)

  pub asked_taken : (b : List Float) → (step f s (stepping (ask b))).reply.refusal.number ≡ 0 → step f s (stepping (ask b)) ≡ stepped s (accepted point_asked)
  asked_taken b e = let c = stepping (ask b) in taken_step c point_asked (finished c point_asked (asked_is f s b (and_left (is_stepped s.track.stage) _ (taken_fits f s c e)))) e

  pub image_taken : (v : List Float) → (step f s (stepping (image_prediction v))).reply.refusal.number ≡ 0 → step f s (stepping (image_prediction v)) ≡ stepped s (accepted (image_in 0 s.sheet.n v))
  image_taken v e = let c = stepping (image_prediction v) in let d = image_in 0 s.sheet.n v in taken_step c d (finished c d (predicted_is f s v (and_left (is_predicting_stepped s.track.stage) _ (taken_fits f s c e)))) e

  pub observed_taken : (m : ℕ) (v : List Float) → (step f s (stepping (image_correction m v))).reply.refusal.number ≡ 0 → step f s (stepping (image_correction m v)) ≡ stepped s (accepted (image_in m m v))
  observed_taken m v e = let c = stepping (image_correction m v) in let d = image_in m m v in taken_step c d (finished c d (observed_is f s m v (and_left (is_correcting_stepped s.track.stage) _ (taken_fits f s c e)))) e

  -- ---- opens

  -- with the points v drawn from x and P, and the weights of the parameters
  abbrev pub DrawnBy : SetCall → (List Float → List Float → Done) → Type 0
  DrawnBy c to = (v : List Float) × (run (drawing f s) ≡ accepted v) × (step f s (setting c) ≡ stepped s (accepted (to (weights_of f s.sheet.n s.sheet.params) v)))

  drawn_so : (c : SetCall) (to : List Float → List Float → Done) → plan f (seen s) (setting c) ≡ draws f to (seen s) → (step f s (setting c)).reply.refusal.number ≡ 0 → DrawnBy c to
  drawn_so c to is e =
      let t = taken_ran (setting c) e in
      let v = mapped_ran (to (weights_of f s.sheet.n s.sheet.params)) (drawing f s) t.0 (ap run (sym is) ∙ t.1) in
      (v.0, v.1, t.2 ∙ ap (λ (x : Done). stepped s (accepted x)) v.2)

  module _ (b : List Float) where
    pub prediction_opened : (step f s (setting (open_prediction b))).reply.refusal.number ≡ 0 → DrawnBy (open_prediction b) (opened opened_prediction s.sheet.n)
    prediction_opened e = drawn_so (open_prediction b) (opened opened_prediction s.sheet.n) refl e

    pub correction_opened_afresh : s.track.stale ≡ true → (step f s (setting (open_correction b))).reply.refusal.number ≡ 0 → DrawnBy (open_correction b) (opened opened_correction s.sheet.n)
    correction_opened_afresh h e = drawn_so (open_correction b) (opened opened_correction s.sheet.n) (rw h) e

    -- with the current points and weights
    pub correction_opened : s.track.stale ≡ false → (step f s (setting (open_correction b))).reply.refusal.number ≡ 0 → step f s (setting (open_correction b)) ≡ stepped s (accepted (opened opened_correction s.sheet.n s.track.weights s.track.points))
    correction_opened h e = taken_step (setting (open_correction b)) (opened opened_correction s.sheet.n s.track.weights s.track.points) (rw h (ran_finish _ _ refl)) e

  -- the same in steps
  pub stepped_prediction_opened : (step f s (setting open_prediction_stepped)).reply.refusal.number ≡ 0 → DrawnBy open_prediction_stepped (opened_stepped opened_prediction_stepped)
  stepped_prediction_opened e = drawn_so open_prediction_stepped (opened_stepped opened_prediction_stepped) refl e

  pub stepped_correction_opened_afresh : s.track.stale ≡ true → (step f s (setting open_correction_stepped)).reply.refusal.number ≡ 0 → DrawnBy open_correction_stepped (opened_stepped opened_correction_stepped)
  stepped_correction_opened_afresh h e = drawn_so open_correction_stepped (opened_stepped opened_correction_stepped) (rw h) e

  pub stepped_correction_opened : s.track.stale ≡ false → (step f s (setting open_correction_stepped)).reply.refusal.number ≡ 0 → step f s (setting open_correction_stepped) ≡ stepped s (accepted (opened_stepped opened_correction_stepped s.track.weights s.track.points))
  stepped_correction_opened h e = taken_step (setting open_correction_stepped) (opened_stepped opened_correction_stepped s.track.weights s.track.points) (rw h (ran_finish _ _ refl)) e

  -- ---- changes of the sheet, and settings

  -- one that is taken has made its change
  finished_taken : (c : Call) (u : Change) → plan f (seen s) c ≡ finish (done u []) → (step f s c).reply.refusal.number ≡ 0 → (step f s c).filter ≡ changed s u
  finished_taken c u is e = ap (λ (t : Stepped). t.filter) (taken_step c (done u []) (rw is (ran_finish _ _ refl)) e)

  pub writing_taken : (c : SheetCall) → (step f s (writing c)).reply.refusal.number ≡ 0 → (step f s (writing c)).filter ≡ changed s (writes (writing_of s.sheet c))
  writing_taken c e = finished_taken (writing c) _ refl e

  pub setting_taken : (c : SetCall) (u : Setting) → plan f (seen s) (setting c) ≡ finish (done (sets u) []) → (step f s (setting c)).reply.refusal.number ≡ 0 → (step f s (setting c)).filter ≡ changed s (sets u)
  setting_taken c u is e = finished_taken (setting c) (sets u) is e

  pub writing_marked : (c : SheetCall) → (step f s (writing c)).reply.refusal.number ≡ 0 → (step f s (writing c)).filter.track.stale ≡ (sheet_marks c || s.track.stale)
  writing_marked (set_q v) e = ap (λ (t : Filter). t.track.stale) (writing_taken (set_q v) e)
  writing_marked (set_params p) e = ap (λ (t : Filter). t.track.stale) (writing_taken (set_params p) e)
  writing_marked (set_kind i k) e = ap (λ (t : Filter). t.track.stale) (writing_taken (set_kind i k) e)

  pub setting_marked : (c : SetCall) → (step f s (setting c)).reply.refusal.number ≡ 0 → (step f s (setting c)).filter.track.stale ≡ (marks c || s.track.stale)
  setting_marked (set_x v) e = ap (λ (t : Filter). t.track.stale) (setting_taken (set_x v) _ refl e)
  setting_marked (set_p v) e = ap (λ (t : Filter). t.track.stale) (setting_taken (set_p v) _ refl e)
  setting_marked (open_prediction b) e = ap (λ (t : Stepped). t.filter.track.stale) (prediction_opened b e).2
  setting_marked open_prediction_stepped e = ap (λ (t : Stepped). t.filter.track.stale) (stepped_prediction_opened e).2
  setting_marked open_correction_stepped e = go s.track.stale refl
    where
      go : (t : Bool) → s.track.stale ≡ t → (step f s (setting open_correction_stepped)).filter.track.stale ≡ s.track.stale
      go true h = ap (λ (t : Stepped). t.filter.track.stale) (stepped_correction_opened_afresh h e).2
      go false h = ap (λ (t : Stepped). t.filter.track.stale) (stepped_correction_opened h e)
  setting_marked (open_correction b) e = go s.track.stale refl
    where
      go : (t : Bool) → s.track.stale ≡ t → (step f s (setting (open_correction b))).filter.track.stale ≡ s.track.stale
      go true h = ap (λ (t : Stepped). t.filter.track.stale) (correction_opened_afresh b h e).2
      go false h = ap (λ (t : Stepped). t.filter.track.stale) (correction_opened b h e)

  -- points and weights stay, refused or not
  abbrev pub PointsStay : Filter → Type 0
  PointsStay t = (t.track.weights ≡ s.track.weights) × (t.track.points ≡ s.track.points)

  pub writing_keeps : (c : SheetCall) → PointsStay (step f s (writing c)).filter
  writing_keeps c = step_cases f s (writing c) PointsStay (refl, refl) (λ d o g n. rw o.1 (stays o.0))
    where
      stays : (u : Writing) → PointsStay (changed s (writes u))
      stays (q_set v) = (refl, refl)
      stays (params_set v) = (refl, refl)
      stays (kinds_set v) = (refl, refl)

  pub setting_keeps : (c : SetCall) → PointsStay (step f s (setting c)).filter
  setting_keeps c = step_cases f s (setting c) PointsStay (refl, refl) (λ d o g n. rw o.1 (stays o.0))
    where
      stays : (u : Setting) → PointsStay (changed s (sets u))
      stays (x_set v) = (refl, refl)
      stays (p_set v) = (refl, refl)
      stays (opened_prediction d) = (refl, refl)
      stays (opened_correction d) = (refl, refl)
      stays (opened_prediction_stepped d) = (refl, refl)
      stays (opened_correction_stepped d) = (refl, refl)
