-- The closes: while a call is open what was drawn is seen, and what the steps make is refused or installed. Assumes nothing.
use Prim.Native.Nat.{ℕ, ◌≤◌}
use mathlib.Core.Path.{◌≡◌, refl, sym, ap, ap₂, ◌∙◌}
use mathlib.Core.Bool.{Bool, true, false, ◌&&◌, cond, false≢true}
use mathlib.Core.List.{List, []}
use native.Mathlib.Omega.{arith}
use lib.Dec.{leb}
use lib.ListN.{length, take}
use lib.Ieee.{Float, Format}
use Rattle.floats.specs.declared.Slice.TheVariants.{Points}
use Rattle.floats.specs.declared.Verdict.{Verdict}
use Rattle.floats.specs.Refusal.{Outcome, accepted, refused, taken}
use Rattle.floats.specs.Numbers.{zeros}
use Rattle.floats.specs.Fronts.{front}
use Rattle.floats.specs.Search.{searched}
use Rattle.floats.proofs.Refusals.{number_of}
use Rattle.angles.specs.declared.Kind.{Kind as KindOf}
use Rattle.angles.specs.Kinds.{Kind, is_plain}
use Rattle.matrix.specs.Results.{Plan, run, mapped}
use Rattle.sigma.specs.Weights.{w0m_of}
use Rattle.sigma.specs.Draw.{point_numbers}
use Rattle.sigma.specs.Predict.{Moment, predict_plan, predict_of}
use Rattle.sigma.specs.declared.Moments.{Moments}
use Rattle.correction.specs.Leaves.{widened}
use Rattle.correction.specs.Correct.{apply_plan, given, correct_of}
use Rattle.correction.specs.Flat.{flat_of}
use Rattle.filter.specs.declared.Stage.{Stage}
use Rattle.filter.specs.declared.Stage.TheVariants.{Shut, Predicting, Correcting, PredictingStepped, CorrectingStepped}
use Rattle.filter.specs.declared.Kept.{Kept}
use Rattle.filter.specs.declared.Filter.{Filter as FilterOf}
use Rattle.filter.specs.declared.Answer.{Answer as AnswerOf}
use Rattle.filter.specs.declared.measurement.Intake.{Intake as IntakeOf}
use Rattle.filter.specs.Types.{Filter, Answer, Intake}
use Rattle.filter.specs.Asked.{every, passing, first_refusal}
use Rattle.filter.specs.Filters.{is_shut, is_predicting, is_correcting, nothing_kept, seen}
use Rattle.filter.specs.Calls.{Call, asks, closing, close_prediction, close_correction, close_correction_flat, halves, observed_numbers, inputs_measured, measurement, closed, weighted_from, flat_from, plan}
use Rattle.filter.specs.Steps.{step, answered, closed_by}
use Rattle.filter.specs.Measurement.{taken_in, measured}
use Rattle.filter.proofs.Sizes.{within_both, numbers_le}
use Rattle.filter.proofs.KindTests.{all_pass, halves_take}
use Rattle.filter.proofs.Order.{tested_early}
use Rattle.filter.proofs.Lines.{sized_le, long_le, slice_first}
use Rattle.filter.proofs.Seen.{states_seen, stage_seen, drawn_points_seen}
use Rattle.filter.proofs.Taken.{Told, all_passed, comes_refused, comes_made}
use Rattle.filter.proofs.Setting.{OfSlice}
use Rattle.filter.proofs.Measuring.{lent, Lent, told_in_order, sizes_in, taken_in_lem}

-- ---- what was drawn is seen

pub predicting_open : (t : Stage) → is_predicting t ≡ true → is_shut t ≡ false
predicting_open Shut h = absurd (false≢true h)
predicting_open Predicting h = refl
predicting_open Correcting h = refl
predicting_open PredictingStepped h = refl
predicting_open CorrectingStepped h = refl

pub correcting_open : (t : Stage) → is_correcting t ≡ true → is_shut t ≡ false
correcting_open Shut h = absurd (false≢true h)
correcting_open Predicting h = refl
correcting_open Correcting h = refl
correcting_open PredictingStepped h = refl
correcting_open CorrectingStepped h = refl

module _ (f : Format) (s : Filter) where
  -- the propagated points of a lent slice, and the plan of their close
  abbrev pub propagated_of : List Float → List Float
  propagated_of v = front (point_numbers s.sheet.n) v (zeros 136)

  abbrev pub predicting : List Float → Plan Moment
  predicting v = predict_plan f s.sheet.n (propagated_of v) (w0m_of f s.sheet.n s.sheet.params) s.track.drawn_weights s.sheet.kinds s.sheet.q

  pub predicting_is : (v : List Float) → is_predicting s.track.stage ≡ true → plan f (seen s) (closing (close_prediction v)) ≡ mapped (closed s.track.drawn_weights (propagated_of v) false) (predicting v)
  predicting_is v h = let e = predicting_open s.track.stage h in rw e

  -- the two closes of a correction
  pub correcting_is : (m : ℕ) (z r : List Float) (kinds : List Kind) (observed : List Float) → is_correcting s.track.stage ≡ true → plan f (seen s) (closing (close_correction m z r kinds observed)) ≡ mapped (closed s.track.drawn_weights s.track.drawn_points true) (apply_plan f (weighted_from f s m z r kinds observed))
  correcting_is m z r kinds observed h = let e = correcting_open s.track.stage h in rw e

  pub correcting_flat_is : (m : ℕ) (z r observed : List Float) → is_correcting s.track.stage ≡ true → plan f (seen s) (closing (close_correction_flat m z r observed)) ≡ mapped (closed s.track.drawn_weights s.track.drawn_points true) (apply_plan f (flat_from f s m z r observed))
  correcting_flat_is m z r observed h = let e = correcting_open s.track.stage h in rw e

-- ---- what the steps have made: refused, or installed with the opened weights and points v

module _ {f : Format} {s : Filter} {c : Call} (t : Told f s c) (z : t.told.number ≡ 0) (v : List Float) (stale : Bool) (p : Plan Moment) (is : plan f (seen s) c ≡ mapped (closed s.track.drawn_weights v stale) p) where
  pub closes_so : {r : Answer} (o : Outcome Moment) → r ≡ closed_by s v stale o → o ≡ run p → r ≡ answered (step f s c)
  closes_so (refused q) d e = d ∙ ap answered (sym (comes_refused t z (closed s.track.drawn_weights v stale) p is e))
  closes_so (accepted m) d e = d ∙ ap answered (sym (comes_made t z (closed s.track.drawn_weights v stale) p is e))

-- ---- over `Number`: each law takes the `floats_seen_law` and the `same` of the bound first

module _ {A : Type 0} {look : (F : Type 0 → Type 0) → F A → F Float} (same : (P : (B : Type 0) → ((F : Type 0 → Type 0) → F B → F Float) → Type 0) → P Float (λ F x. x) → P A look) where
  predicts_seen : (a : FilterOf A) {b : Bool} → b ≡ is_predicting a.track.stage → b ≡ is_predicting (look FilterOf a).track.stage
  predicts_seen a d = d ∙ ap is_predicting (sym (stage_seen same a))

  corrects_seen : (a : FilterOf A) {b : Bool} → b ≡ is_correcting a.track.stage → b ≡ is_correcting (look FilterOf a).track.stage
  corrects_seen a d = d ∙ ap is_correcting (sym (stage_seen same a))

  told_seen : (i : IntakeOf A) → i.refusal ≡ (look IntakeOf i).refusal
  told_seen = same (λ B s. (i : IntakeOf B) → i.refusal ≡ (s IntakeOf i).refusal) (λ i. refl)

  plain_seen : (a : FilterOf A) {b : Bool} → b ≡ every is_plain (take a.sheet.n (look (λ B. List (KindOf B)) a.sheet.kinds)) → b ≡ every is_plain (take a.sheet.n (look FilterOf a).sheet.kinds)
  plain_seen a h = h ∙ ap (λ (k : List Kind). every is_plain (take a.sheet.n k)) (same (λ B s. (a : FilterOf B) → s (λ C. List (KindOf C)) a.sheet.kinds ≡ (s FilterOf a).sheet.kinds) (λ a. refl) a)

module _ {A : Type 0} {floats : List A → List Float} {look : (F : Type 0 → Type 0) → F A → F Float} (law : (l : List A) → floats l ≡ look List l) (same : (P : (B : Type 0) → ((F : Type 0 → Type 0) → F B → F Float) → Type 0) → P Float (λ F x. x) → P A look) where
  -- the filter that a close leaves
  pub seen_closed : (a : FilterOf A) (m : Moments A) (v w p : List A) (k : Kept A) (stale : Bool) → floats w ≡ zeros 17 → floats p ≡ zeros 136 → look Kept k ≡ nothing_kept
      → look AnswerOf (record { filter = record { sheet = a.sheet; track = record { x = m.x; p = m.p; weights = a.track.drawn_weights; points = v; stale = stale; stage = Shut; drawn_weights = w; drawn_points = p; kept = k } }; refusal = taken }) ≡ closed_by (look FilterOf a) (floats v) stale (accepted (look Moments m))
  seen_closed a m v w p k stale e d h =
      rw (law v)
      (same (λ B s. (a : FilterOf B) (m : Moments B) (v w p : List B) (k : Kept B) → s List w ≡ zeros 17 → s List p ≡ zeros 136 → s Kept k ≡ nothing_kept → s AnswerOf (record { filter = record { sheet = a.sheet; track = record { x = m.x; p = m.p; weights = a.track.drawn_weights; points = v; stale = stale; stage = Shut; drawn_weights = w; drawn_points = p; kept = k } }; refusal = taken }) ≡ closed_by (s FilterOf a) (s List v) stale (accepted (s Moments m)))
      (λ a m v w p k e d h. rw (e, d, h)) a m v w p k (sym (law w) ∙ e) (sym (law p) ∙ d) h)

  -- what the steps of each close are given
  predicts : (f : Format) (a : FilterOf A) (u : List Float) (w : Float) → predict_of f a.sheet.n u w (floats a.track.drawn_weights) (look (λ B. List (KindOf B)) a.sheet.kinds) (floats a.sheet.q) ≡ (let s = look FilterOf a in predict_of f s.sheet.n u w s.track.drawn_weights s.sheet.kinds s.sheet.q)
  predicts f a u w =
      rw (law a.track.drawn_weights, law a.sheet.q)
      (same (λ B s. (a : FilterOf B) → predict_of f a.sheet.n u w (s List a.track.drawn_weights) (s (λ C. List (KindOf C)) a.sheet.kinds) (s List a.sheet.q) ≡ (let t = s FilterOf a in predict_of f t.sheet.n u w t.track.drawn_weights t.sheet.kinds t.sheet.q)) (λ a. refl) a)

  corrects : (f : Format) (a : FilterOf A) (m : ℕ) (i : IntakeOf A) (w : Float) (wide : List Kind) → correct_of f (given a.sheet.n m (floats a.track.x) (floats a.track.p) (floats a.track.drawn_points) (floats i.observed) w (floats a.track.drawn_weights) (floats i.z) (floats i.r) (look (λ B. List (KindOf B)) a.sheet.kinds) wide) ≡ (let s = look FilterOf a in let v = look IntakeOf i in correct_of f (given s.sheet.n m s.track.x s.track.p s.track.drawn_points v.observed w s.track.drawn_weights v.z v.r s.sheet.kinds wide))
  corrects f a m i w wide =
      rw (law a.track.x, law a.track.p, law a.track.drawn_points, law i.observed, law a.track.drawn_weights, law i.z, law i.r)
      (same
      (λ B s. (a : FilterOf B) (i : IntakeOf B) → correct_of f (given a.sheet.n m (s List a.track.x) (s List a.track.p) (s List a.track.drawn_points) (s List i.observed) w (s List a.track.drawn_weights) (s List i.z) (s List i.r) (s (λ C. List (KindOf C)) a.sheet.kinds) wide) ≡ (let t = s FilterOf a in let v = s IntakeOf i in correct_of f (given t.sheet.n m t.track.x t.track.p t.track.drawn_points v.observed w t.track.drawn_weights v.z v.r t.sheet.kinds wide)))
      (λ a i. refl) a i)

  corrects_flat : (f : Format) (a : FilterOf A) (m : ℕ) (i : IntakeOf A) → flat_of f a.sheet.n m (floats a.track.x) (floats a.track.p) (floats a.track.drawn_points) (floats i.observed) (floats i.z) (floats i.r) ≡ (let s = look FilterOf a in let v = look IntakeOf i in flat_of f s.sheet.n m s.track.x s.track.p s.track.drawn_points v.observed v.z v.r)
  corrects_flat f a m i =
      rw (law a.track.x, law a.track.p, law a.track.drawn_points, law i.observed, law i.z, law i.r)
      (same
      (λ B s. (a : FilterOf B) (i : IntakeOf B) → flat_of f a.sheet.n m (s List a.track.x) (s List a.track.p) (s List a.track.drawn_points) (s List i.observed) (s List i.z) (s List i.r) ≡ (let t = s FilterOf a in let v = s IntakeOf i in flat_of f t.sheet.n m t.track.x t.track.p t.track.drawn_points v.observed v.z v.r))
      (λ a i. refl) a i)

  -- a close prediction, as the code makes it: b whether it fits, k the count of what is needed of the lent v, r what the tests have told
  module _ (f : Format) (self : FilterOf A) (v : List Float) {b : Bool} {k : ℕ} {r : Verdict} (d : b ≡ is_predicting self.track.stage) (e : k ≡ cond (leb self.sheet.n 8 && leb self.sheet.n 8) (observed_numbers self.sheet.n self.sheet.n) 0) (t : OfSlice f b self.sheet.n k Points v r) where
    pub prediction_first : r ≡ first_refusal f (asks (seen (look FilterOf self)) (closing (close_prediction v)))
    prediction_first = rw (states_seen same self) (slice_first f Points v t (predicts_seen same self d) (λ h. e ∙ within_both _ _ _ h h))

    abbrev pub prediction_told : Told f (look FilterOf self) (closing (close_prediction v))
    prediction_told = record { told = r; is = prediction_first }

    module _ (z : r.number ≡ 0) where
      pub prediction_sized : self.sheet.n ≤ 8
      prediction_sized = omega (arith, states_seen same self, sized_le f (all_passed prediction_told z))

      prediction_counted : k ≡ point_numbers self.sheet.n
      prediction_counted = e ∙ within_both _ _ _ prediction_sized prediction_sized

      pub prediction_room : (k ≤ length v) × (k ≤ 136)
      prediction_room =
          let l : point_numbers self.sheet.n ≤ length v = rw (sym (states_seen same self)) (long_le f (all_passed prediction_told z)) in
          omega (arith, l, prediction_counted, numbers_le self.sheet.n self.sheet.n prediction_sized prediction_sized)

      -- u is what has been taken in
      pub prediction_closed : {u : List Float} {w : Float} {a : Answer} {o : Outcome Moment} → u ≡ front k v (zeros 136) → w ≡ w0m_of f (look FilterOf self).sheet.n (look FilterOf self).sheet.params
          → o ≡ predict_of f self.sheet.n u w (floats self.track.drawn_weights) (look (λ B. List (KindOf B)) self.sheet.kinds) (floats self.sheet.q) → a ≡ closed_by (look FilterOf self) u false o → a ≡ answered (step f (look FilterOf self) (closing (close_prediction v)))
      prediction_closed {u = u} {w = w} {o = o} h i j c =
          let s = look FilterOf self in
          let x = h ∙ ap (λ (m : ℕ). front m v (zeros 136)) (prediction_counted ∙ ap point_numbers (sym (states_seen same self))) in
          closes_so prediction_told z (propagated_of f s v) false (predicting f s v) (predicting_is f s v (all_passed prediction_told z).fits) o
          (c ∙ ap (λ (p : List Float). closed_by s p false o) x)
          (j ∙ predicts f self u w ∙ ap₂ (λ (p : List Float) (y : Float). predict_of f s.sheet.n p y s.track.drawn_weights s.sheet.kinds s.sheet.q) x i)

  -- a close of a correction of m measurements: b whether it fits, i what has been taken in
  module _ (f : Format) (self : FilterOf A) (m : ℕ) (z r observed : List Float) {b : Bool} {i : IntakeOf A} (d : b ≡ is_correcting self.track.stage) where
    -- by weights and kinds
    module _ (kinds : List Kind) {turns : List Float} {pass : Bool} (h : turns ≡ halves kinds) (k : pass ≡ every (passing f) (take m kinds)) (is : look IntakeOf i ≡ measured (taken_in (lent b self.sheet.n m z r observed (take m turns) true pass))) where
      weighted_lent : Lent (lent b self.sheet.n m z r observed (take m turns) true pass) (look IntakeOf i)
      weighted_lent = record { is = is }

      pub weighted_first : i.refusal ≡ first_refusal f (asks (seen (look FilterOf self)) (closing (close_correction m z r kinds observed)))
      weighted_first =
          rw (states_seen same self)
          (tested_early f _ _ (told_seen same i ∙ told_in_order weighted_lent) (corrects_seen same self d) refl (λ g. refl) refl refl refl (λ g. ap (λ (u : List Float). searched (inputs_measured self.sheet.n m z r observed u)) (ap (take m) h ∙ halves_take m kinds)) refl (λ g. k ∙ all_pass f (take m kinds)))

      abbrev pub weighted_told : Told f (look FilterOf self) (closing (close_correction m z r kinds observed))
      weighted_told = record { told = i.refusal; is = weighted_first }

      module _ (t : i.refusal.number ≡ 0) where
        pub weighted_sized : (self.sheet.n ≤ 8) × (m ≤ 4)
        weighted_sized = sizes_in weighted_lent (sym (number_of (told_seen same i)) ∙ t)

        pub weighted_closed : {w : Float} {a : Answer} {o : Outcome Moment} → w ≡ w0m_of f (look FilterOf self).sheet.n (look FilterOf self).sheet.params
            → o ≡ correct_of f (given self.sheet.n m (floats self.track.x) (floats self.track.p) (floats self.track.drawn_points) (floats i.observed) w (floats self.track.drawn_weights) (floats i.z) (floats i.r) (look (λ B. List (KindOf B)) self.sheet.kinds) (widened kinds))
            → a ≡ closed_by (look FilterOf self) (floats self.track.drawn_points) true o → a ≡ answered (step f (look FilterOf self) (closing (close_correction m z r kinds observed)))
        weighted_closed {w = w} {o = o} x j c =
            let s = look FilterOf self in
            let u : look IntakeOf i ≡ measurement s.sheet.n m z r observed = taken_in_lem weighted_lent (sym (number_of (told_seen same i)) ∙ t) ∙ ap (λ (n : ℕ). measurement n m z r observed) (sym (states_seen same self)) in
            closes_so weighted_told t s.track.drawn_points true (apply_plan f (weighted_from f s m z r kinds observed)) (correcting_is f s m z r kinds observed (all_passed weighted_told t).fits) o
            (c ∙ ap (λ (p : List Float). closed_by s p true o) (drawn_points_seen law same self))
            (j ∙ corrects f self m i w (widened kinds) ∙ ap₂ (λ (v : Intake) (y : Float). correct_of f (given s.sheet.n m s.track.x s.track.p s.track.drawn_points v.observed y s.track.drawn_weights v.z v.r s.sheet.kinds (widened kinds))) u x)

    -- by flat averages
    module _ {plain : Bool} (h : plain ≡ every is_plain (take self.sheet.n (look (λ B. List (KindOf B)) self.sheet.kinds))) (is : look IntakeOf i ≡ measured (taken_in (lent b self.sheet.n m z r observed [] plain true))) where
      flat_lent : Lent (lent b self.sheet.n m z r observed [] plain true) (look IntakeOf i)
      flat_lent = record { is = is }

      pub flat_first : i.refusal ≡ first_refusal f (asks (seen (look FilterOf self)) (closing (close_correction_flat m z r observed)))
      flat_first =
          rw (states_seen same self)
          (tested_early f _ _ (told_seen same i ∙ told_in_order flat_lent) (corrects_seen same self d) refl (λ g. refl) refl refl refl (λ g. refl) (plain_seen same self h) (λ g. refl))

      abbrev pub flat_told : Told f (look FilterOf self) (closing (close_correction_flat m z r observed))
      flat_told = record { told = i.refusal; is = flat_first }

      module _ (t : i.refusal.number ≡ 0) where
        pub flat_sized : (self.sheet.n ≤ 8) × (m ≤ 4)
        flat_sized = sizes_in flat_lent (sym (number_of (told_seen same i)) ∙ t)

        pub flat_closed : {a : Answer} {o : Outcome Moment} → o ≡ flat_of f self.sheet.n m (floats self.track.x) (floats self.track.p) (floats self.track.drawn_points) (floats i.observed) (floats i.z) (floats i.r)
            → a ≡ closed_by (look FilterOf self) (floats self.track.drawn_points) true o → a ≡ answered (step f (look FilterOf self) (closing (close_correction_flat m z r observed)))
        flat_closed {o = o} j c =
            let s = look FilterOf self in
            let u : look IntakeOf i ≡ measurement s.sheet.n m z r observed = taken_in_lem flat_lent (sym (number_of (told_seen same i)) ∙ t) ∙ ap (λ (n : ℕ). measurement n m z r observed) (sym (states_seen same self)) in
            closes_so flat_told t s.track.drawn_points true (apply_plan f (flat_from f s m z r observed)) (correcting_flat_is f s m z r observed (all_passed flat_told t).fits) o
            (c ∙ ap (λ (p : List Float). closed_by s p true o) (drawn_points_seen law same self))
            (j ∙ corrects_flat f self m i ∙ ap (λ (v : Intake). flat_of f s.sheet.n m s.track.x s.track.p s.track.drawn_points v.observed v.z v.r) u)
