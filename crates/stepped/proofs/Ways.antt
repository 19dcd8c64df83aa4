-- A stepped open comes to what the whole-list open comes to, at its own stage; a stepped close, once every image is in and its m is the first image's, to what the whole-list close on the images comes to. Assumes nothing.
use Prim.Native.Nat.{ℕ, ◌≤◌}
use mathlib.Core.Path.{◌≡◌, refl, sym, ap, ap₂, ◌∙◌}
use mathlib.Core.Bool.{Bool, true, false, not, ◌&&◌, cond}
use mathlib.Core.List.{List, [], ◌∷◌}
use native.Mathlib.Omega.{arith}
use borrow.Author.Tests.{le-leb, ne_eqb}
use lib.Dec.{eqb}
use lib.ListN.{length}
use lib.Ieee.{Float, Format}
use Rattle.floats.specs.declared.Verdict.{Verdict}
use Rattle.floats.specs.declared.Refusal.{Refusal}
use Rattle.floats.specs.declared.Refusal.TheVariants.{Stage as STAGE, Size as SIZE}
use Rattle.floats.specs.Refusal.{verdict, Outcome, refused, accepted, refusal, nothing, onward}
use Rattle.floats.proofs.Refusals.{number_of, number_above}
use Rattle.matrix.specs.Results.{Plan, finish, run, mapped}
use Rattle.matrix.proofs.Mapped.{run_mapped}
use Rattle.sigma.specs.Draw.{point_numbers, draw_plan}
use Rattle.sigma.specs.Predict.{Moment}
use Rattle.sigma.specs.Weights.{scale_of, weights_of}
use Rattle.correction.specs.Correct.{apply_plan}
use Rattle.filter.specs.declared.Stage.{Stage}
use Rattle.filter.specs.declared.Stage.TheVariants.{Predicting, Correcting, PredictingStepped, CorrectingStepped}
use Rattle.filter.specs.Types.{Filter}
use Rattle.filter.specs.Types.{Answer}
use Rattle.filter.specs.Asked.{Asks, Size, in_range, within, every, in_order, guarded}
use Rattle.filter.specs.Filters.{is_shut, is_stepped, seen, opened_prediction, opened_correction, opened_prediction_stepped, opened_correction_stepped}
use Rattle.filter.specs.Calls.{setting, open_prediction, open_correction, open_prediction_stepped, open_correction_stepped, SteppedClose, close_prediction_stepped, close_correction_stepped, close_correction_flat_stepped, close_prediction, close_correction, close_correction_flat, with_list, closing, closing_stepped, lend, line, Needs, asking, besides, named, named_by, due, own_stepped, fits, close_needs, asks, Done, opened, opened_stepped, closed, draws, draws_current, weighted_from, flat_from, close_plan, plan}
use Rattle.filter.specs.Steps.{outcome, stepped, step, answered}
use Rattle.filter.proofs.Sizes.{and_left, and_right, every_append}
use Rattle.filter.proofs.Lines.{states_le}
use Rattle.filter.proofs.Closing.{propagated_of, predicting}
use Rattle.filter.proofs.Order.{all_pass, guarded_through}
use Rattle.stepped.specs.Ways.{sort_of, stepped_stage, whole_stage, at_stage, opened_at, unless_refused}
use Rattle.stepped.proofs.Seen.{predicting_at, correcting_at, staged, fits_seen}

pub not_zero : (r : Refusal) → eqb (verdict r).number 0 ≡ false
not_zero r = ne_eqb (verdict r).number 0 (λ (e : (verdict r).number ≡ 0). omega (arith, number_above r))

and-false : (a : Bool) → (a && false) ≡ false
and-false true = refl
and-false false = refl

-- ---- open

module _ (f : Format) (s : Filter) where
  -- a buffer with room for all points is as good as none asked for
  roomy : {A : Type 0} (t : Bool) (b : List Float) (o : Outcome A) → (s.sheet.n ≤ 8 → point_numbers s.sheet.n ≤ length b) → guarded f (line t s.sheet.n [] [] false [] []) o ≡ guarded f (line t s.sheet.n [] (lend b (point_numbers s.sheet.n)) false [] []) o
  unfolding guarded in_order
  roomy t b o h = go (every within (record { value = s.sheet.n; from = 1; to = 8 } ∷ [])) refl
    where
      go : (u : Bool) → every within (record { value = s.sheet.n; from = 1; to = 8 } ∷ []) ≡ u → guarded f (line t s.sheet.n [] [] false [] []) o ≡ guarded f (line t s.sheet.n [] (lend b (point_numbers s.sheet.n)) false [] []) o
      go true e = rw (le-leb _ _ (h (states_le _ [] e)))
      go false e = rw e

  module _ (t : Stage) (to from : List Float → List Float → Done) (same : (w v : List Float) → answered (stepped s (accepted (to w v))) ≡ opened_at t (answered (stepped s (accepted (from w v))))) where
    abbrev by : Outcome Done → Answer
    by o = answered (stepped s o)

    abbrev ways : Outcome Done → Outcome Done → Type 0
    ways o p = by o ≡ opened_at t (by p)

    refused_alike : (r : Refusal) → ways (refused r) (refused r)
    refused_alike r = rw (not_zero r)

    drawn_alike : (o : Outcome (List Float)) (w : List Float) → ways (onward o (λ (v : List Float). accepted (to w v))) (onward o (λ (v : List Float). accepted (from w v)))
    drawn_alike (refused r) w = refused_alike r
    drawn_alike (accepted v) w = same w v

    draws_alike : (u : Filter) → ways (run (draws f to u)) (run (draws f from u))
    draws_alike u =
        let w = weights_of f u.sheet.n u.sheet.params in
        let p = draw_plan f u.sheet.n u.track.x u.track.p (scale_of f u.sheet.n u.sheet.params) in
        ap by (run_mapped (to w) p) ∙ drawn_alike (run p) w ∙ ap (λ (o : Outcome Done). opened_at t (by o)) (sym (run_mapped (from w) p))

    current_alike : (u : Filter) (stale : Bool) → ways (run (cond stale (draws f to u) (finish (to u.track.weights u.track.points)))) (run (cond stale (draws f from u) (finish (from u.track.weights u.track.points))))
    unfolding run
    current_alike u true = draws_alike u
    current_alike u false = same _ _

    guarded_alike : (a : Asks) (o p : Outcome Done) → ways o p → ways (guarded f a o) (guarded f a p)
    guarded_alike a o p e = guarded_through f a by (λ (o : Outcome Done). opened_at t (by o)) o p e refused_alike

  module _ (b : List Float) (h : s.sheet.n ≤ 8 → point_numbers s.sheet.n ≤ length b) where
    abbrev shut : Bool
    shut = is_shut s.track.stage

    abbrev lent : Asks
    lent = line shut s.sheet.n [] (lend b (point_numbers s.sheet.n)) false [] []

    pub opens_prediction : answered (step f s (setting open_prediction_stepped)) ≡ opened_at PredictingStepped (answered (step f s (setting (open_prediction b))))
    unfolding step
    opens_prediction =
        let to = opened_stepped opened_prediction_stepped in
        let from = opened opened_prediction s.sheet.n in
        ap (λ (o : Outcome Done). answered (stepped s o)) (roomy shut b (run (draws f to (seen s))) h)
        ∙ guarded_alike PredictingStepped to from (λ w v. refl) lent (run (draws f to (seen s))) (run (draws f from (seen s))) (draws_alike PredictingStepped to from (λ w v. refl) (seen s))

    pub opens_correction : answered (step f s (setting open_correction_stepped)) ≡ opened_at CorrectingStepped (answered (step f s (setting (open_correction b))))
    unfolding step
    opens_correction =
        let to = opened_stepped opened_correction_stepped in
        let from = opened opened_correction s.sheet.n in
        ap (λ (o : Outcome Done). answered (stepped s o)) (roomy shut b (run (draws_current f to (seen s))) h)
        ∙ guarded_alike CorrectingStepped to from (λ w v. refl) lent (run (draws_current f to (seen s))) (run (draws_current f from (seen s))) (current_alike CorrectingStepped to from (λ w v. refl) (seen s) s.track.stale)

-- ---- close

-- the stage of the call that it closes, stepped and with the whole list
abbrev own : SteppedClose → Stage
own c = stepped_stage (sort_of c)

abbrev whole : SteppedClose → Stage
whole c = whole_stage (sort_of c)

pub own_stage : (s : Filter) (c : SteppedClose) → fits (closing_stepped c) s ≡ true → s ≡ at_stage s (stepped_stage (sort_of c))
own_stage s close_prediction_stepped h = staged s (predicting_at _ (and_left _ _ h))
own_stage s (close_correction_stepped m z r kinds) h = staged s (correcting_at _ (and_left _ _ h))
own_stage s (close_correction_flat_stepped m z r) h = staged s (correcting_at _ (and_left _ _ h))

pub own_stepped_lem : (s : Filter) (c : SteppedClose) → fits (closing_stepped c) s ≡ true → is_stepped s.track.stage ≡ true
own_stepped_lem s c h = ap (λ (t : Filter). is_stepped t.track.stage) (own_stage s c h) ∙ by c
  where
    by : (c : SteppedClose) → is_stepped (own c) ≡ true
    by close_prediction_stepped = refl
    by (close_correction_stepped m z r kinds) = refl
    by (close_correction_flat_stepped m z r) = refl

-- the images are seen
pub images_seen : (s : Filter) (c : SteppedClose) → fits (closing_stepped c) s ≡ true → (seen s).track.kept.images ≡ s.track.kept.images
images_seen s c h = ap (λ (t : Filter). (seen t).track.kept.images) (own_stage s c h) ∙ by c
  where
    by : (c : SteppedClose) → (seen (at_stage s (own c))).track.kept.images ≡ s.track.kept.images
    by close_prediction_stepped = refl
    by (close_correction_stepped m z r kinds) = refl
    by (close_correction_flat_stepped m z r) = refl

-- its plan is the whole-list close's on the images
pub planned_whole : (f : Format) (s : Filter) (c : SteppedClose) → fits (closing_stepped c) s ≡ true → plan f (seen s) (closing_stepped c) ≡ close_plan f s (with_list c s.track.kept.images)
planned_whole f s c h = ap (λ (t : Filter). plan f (seen t) (closing_stepped c)) (own_stage s c h) ∙ by c
  where
    by : (c : SteppedClose) → plan f (seen (at_stage s (own c))) (closing_stepped c) ≡ close_plan f s (with_list c s.track.kept.images)
    by close_prediction_stepped = refl
    by (close_correction_stepped m z r kinds) = refl
    by (close_correction_flat_stepped m z r) = refl

-- the tests of an asks, one by one
module _ (f : Format) {A : Type 0} (a : Asks) (o : Outcome A) where
  unfit : a.fits ≡ false → guarded f a o ≡ refused STAGE
  unfolding guarded in_order
  unfit e = rw e

  unsized : a.fits ≡ true → every within a.sizes ≡ false → guarded f a o ≡ refused SIZE
  unfolding guarded in_order
  unsized e d = rw (e, d)

-- what comes before the rest
fronted : (f : Format) {A : Type 0} (n : ℕ) (g h : Bool) (sizes : List Size) (a : Needs) (o : Outcome A) → g ≡ h → every within sizes ≡ true → guarded f (asking g n (besides sizes a)) o ≡ guarded f (asking h n a) o
unfolding guarded
fronted f n g h sizes a o e d = rw (e, every_append within sizes a.sizes, d)

module _ (f : Format) (s : Filter) where
  -- 1 to 8 states, the m that has been named, and what the whole-list close asks
  sizes_are : (c : SteppedClose) → let u = at_stage s (own c) in every within (asks (seen u) (closing_stepped c)).sizes ≡ (in_range 1 8 s.sheet.n && (every within (named_by s.track.kept c) && every within (close_needs s.sheet (with_list c s.track.kept.images)).sizes))
  sizes_are close_prediction_stepped = refl
  sizes_are (close_correction_stepped m z r kinds) = ap (λ (b : Bool). in_range 1 8 s.sheet.n && b) (every_append within (named s.track.kept m) _)
  sizes_are (close_correction_flat_stepped m z r) = ap (λ (b : Bool). in_range 1 8 s.sheet.n && b) (every_append within (named s.track.kept m) _)

  -- what the steps make of the images is installed, or refused, whichever way the call was opened
  module _ (w v : List Float) (stale : Bool) (t u : Stage) where
    made_alike : (o : Outcome Moment) → answered (stepped (at_stage s t) (onward o (λ (m : Moment). accepted (closed w v stale m)))) ≡ unless_refused (at_stage s t) (answered (stepped (at_stage s u) (onward o (λ (m : Moment). accepted (closed w v stale m)))))
    made_alike (refused r) = rw (not_zero r)
    made_alike (accepted m) = refl

    plan_alike : (p : Plan Moment) → let o = run (mapped (closed w v stale) p) in answered (stepped (at_stage s t) o) ≡ unless_refused (at_stage s t) (answered (stepped (at_stage s u) o))
    plan_alike p = rw (run_mapped (closed w v stale) p) (made_alike (run p))

    guards_alike : (a : Asks) (p : Plan Moment) → let o = guarded f a (run (mapped (closed w v stale) p)) in answered (stepped (at_stage s t) o) ≡ unless_refused (at_stage s t) (answered (stepped (at_stage s u) o))
    guards_alike a p = guarded_through f a (λ (o : Outcome Done). answered (stepped (at_stage s t) o)) (λ (o : Outcome Done). unless_refused (at_stage s t) (answered (stepped (at_stage s u) o))) _ _ (plan_alike p) (λ r. rw (not_zero r))

  -- A STEPPED CLOSE IS THE WHOLE-LIST CLOSE ON THE IMAGES
  module _ (d : not (due s) ≡ true) where
    closes_at : (c : SteppedClose) → every within (named_by s.track.kept c) ≡ true → answered (step f (at_stage s (own c)) (closing_stepped c)) ≡ unless_refused (at_stage s (own c)) (answered (step f (at_stage s (whole c)) (closing (with_list c s.track.kept.images))))
    unfolding step
    closes_at close_prediction_stepped e =
        let v = s.track.kept.images in
        let c = close_prediction v in
        ap (λ (o : Outcome Done). answered (stepped (at_stage s PredictingStepped) o)) (fronted f s.sheet.n (not (due s)) true [] (close_needs s.sheet c) (run (close_plan f s c)) d refl)
        ∙ guards_alike s.track.drawn_weights (propagated_of f s v) false PredictingStepped Predicting (asking true s.sheet.n (close_needs s.sheet c)) (predicting f s v)
    closes_at (close_correction_stepped m z r kinds) e =
        let v = s.track.kept.images in
        let c = close_correction m z r kinds v in
        ap (λ (o : Outcome Done). answered (stepped (at_stage s CorrectingStepped) o)) (fronted f s.sheet.n (not (due s)) true (named s.track.kept m) (close_needs s.sheet c) (run (close_plan f s c)) d e)
        ∙ guards_alike s.track.drawn_weights s.track.drawn_points true CorrectingStepped Correcting (asking true s.sheet.n (close_needs s.sheet c)) (apply_plan f (weighted_from f s m z r kinds v))
    closes_at (close_correction_flat_stepped m z r) e =
        let v = s.track.kept.images in
        let c = close_correction_flat m z r v in
        ap (λ (o : Outcome Done). answered (stepped (at_stage s CorrectingStepped) o)) (fronted f s.sheet.n (not (due s)) true (named s.track.kept m) (close_needs s.sheet c) (run (close_plan f s c)) d e)
        ∙ guards_alike s.track.drawn_weights s.track.drawn_points true CorrectingStepped Correcting (asking true s.sheet.n (close_needs s.sheet c)) (apply_plan f (flat_from f s m z r v))

  pub closes_whole : (c : SteppedClose) → fits (closing_stepped c) s ≡ true → every within (named_by s.track.kept c) ≡ true → answered (step f s (closing_stepped c)) ≡ unless_refused s (answered (step f (at_stage s (whole_stage (sort_of c))) (closing (with_list c s.track.kept.images))))
  closes_whole c h e =
      let x = own_stage s c h in
      ap (λ (t : Filter). answered (step f t (closing_stepped c))) x ∙ closes_at (and_right (own_stepped c s.track.stage) _ h) c e ∙ sym (ap (λ (t : Filter). unless_refused t (answered (step f (at_stage s (whole c)) (closing (with_list c s.track.kept.images))))) x)

-- ---- as the code goes: what it has tested of a stepped close, its stage and its m

pub record Tested (s : Filter) (c : SteppedClose) (v : Verdict) : Type 0 where
  pub mine : Bool
  pub names : Bool
  pub is : v ≡ refusal (in_order (mine && not (due s)) names true true false false nothing true true nothing)
  pub mine_is : mine ≡ own_stepped c s.track.stage
  pub names_is : names ≡ every within (named_by s.track.kept c)

module _ (f : Format) {s : Filter} {c : SteppedClose} {v : Verdict} (t : Tested s c v) where
  fitting : (t.mine && not (due s)) ≡ fits (closing_stepped c) s
  fitting = ap (λ (b : Bool). b && not (due s)) t.mine_is

  -- every image is in, and m is the first image's: it is the whole-list close
  pub ready : v.number ≡ 0 → answered (step f s (closing_stepped c)) ≡ unless_refused s (answered (step f (at_stage s (whole_stage (sort_of c))) (closing (with_list c s.track.kept.images))))
  ready z = let p = all_pass (t.mine && not (due s)) t.names true true false false nothing true true (sym (number_of t.is) ∙ z) in closes_whole f s c (sym fitting ∙ p.0) (sym t.names_is ∙ p.1)

  -- else it is refused, by 3 or 1
  pub unready : (v.number ≡ 0 → ⊥) → record { filter = s; refusal = v } ≡ answered (step f s (closing_stepped c))
  unfolding step in_order
  unready h = go (fits (closing_stepped c) s) (every within (named_by s.track.kept c)) refl refl
    where
      told : {r : Refusal} → v ≡ verdict r → outcome f (seen s) (closing_stepped c) ≡ refused r → record { filter = s; refusal = v } ≡ answered (step f s (closing_stepped c))
      told e d = ap (λ (x : Verdict). record { filter = s; refusal = x }) e ∙ sym (ap (λ (o : Outcome Done). answered (stepped s o)) d)

      tests : {a b : Bool} → fits (closing_stepped c) s ≡ a → every within (named_by s.track.kept c) ≡ b → v ≡ refusal (in_order a b true true false false nothing true true nothing)
      tests x y = t.is ∙ ap₂ (λ (a b : Bool). refusal (in_order a b true true false false nothing true true nothing)) (fitting ∙ x) (t.names_is ∙ y)

      unnamed : fits (closing_stepped c) s ≡ true → every within (named_by s.track.kept c) ≡ false → every within (asks (seen s) (closing_stepped c)).sizes ≡ false
      unnamed x y = ap (λ (u : Filter). every within (asks (seen u) (closing_stepped c)).sizes) (own_stage s c x) ∙ sizes_are f s c ∙ rw y (and-false (in_range 1 8 s.sheet.n))

      go : (a b : Bool) → fits (closing_stepped c) s ≡ a → every within (named_by s.track.kept c) ≡ b → record { filter = s; refusal = v } ≡ answered (step f s (closing_stepped c))
      go false b x y = told (tests x y) (unfit f (asks (seen s) (closing_stepped c)) (run (plan f (seen s) (closing_stepped c))) (fits_seen s (closing_stepped c) ∙ x))
      go true false x y = told (tests x y) (unsized f (asks (seen s) (closing_stepped c)) (run (plan f (seen s) (closing_stepped c))) (fits_seen s (closing_stepped c) ∙ x) (unnamed x y))
      go true true x y = absurd (h (number_of (tests x y)))

-- a close that has gone on: g is the filter at the stage of the whole-list close, and w the images
pub whole_closed : (f : Format) {s : Filter} {c : SteppedClose} {v : Verdict} (t : Tested s c v) → v.number ≡ 0 → {g : Filter} {w : List Float} {a r : Answer}
    → g ≡ at_stage s (whole_stage (sort_of c)) → w ≡ s.track.kept.images → a ≡ answered (step f g (closing (with_list c w))) → r ≡ unless_refused s a → r ≡ answered (step f s (closing_stepped c))
whole_closed f {s} {c} t z e h d q =
    q ∙ ap (unless_refused s) (d ∙ ap₂ (λ (g : Filter) (w : List Float). answered (step f g (closing (with_list c w)))) e h) ∙ sym (ready f t z)
