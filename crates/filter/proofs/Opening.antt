-- The two open calls, by the stage that they lead to (`opening` of specs/Calls.antt): what they ask, what they do, and what they change. Assumes nothing.
use Prim.Native.Nat.{ℕ, ◌≤◌}
use mathlib.Core.Path.{◌≡◌, refl, sym, ap, ap₂, ◌∙◌}
use mathlib.Core.Bool.{Bool, true, false, not, ◌&&◌, cond, false≢true}
use mathlib.Core.List.{List, [], map}
use native.Mathlib.Omega.{arith}
use borrow.Author.Tests.{not-true, not-false}
use lib.Dec.{leb}
use lib.ListN.{length, take}
use lib.Ieee.{Float, Format}
use Rattle.floats.specs.declared.Verdict.{Verdict}
use Rattle.floats.specs.declared.Refusal.{Refusal}
use Rattle.floats.specs.Refusal.{verdict, taken, Outcome, accepted, refused, refusal, nothing}
use Rattle.floats.specs.Fronts.{over}
use Rattle.matrix.specs.Results.{finish}
use Rattle.sigma.specs.Weights.{Params, scale_of, weights_of}
use Rattle.sigma.specs.Draw.{point_numbers, draw_of}
use Rattle.filter.specs.declared.Stage.{Stage}
use Rattle.filter.specs.declared.Stage.TheVariants.{Shut, Predicting, Correcting, PredictingStepped, CorrectingStepped}
use Rattle.sigma.specs.declared.Params.{Params as ParamsOf}
use Rattle.filter.specs.declared.Filter.{Filter as FilterOf}
use Rattle.filter.specs.Types.{Weighted}
use Rattle.filter.specs.Types.{Filter}
use Rattle.filter.specs.Types.{Answer}
use Rattle.filter.specs.Asked.{in_range, in_order, first_refusal}
use Rattle.filter.specs.Filters.{filter, is_shut, is_whole, is_correcting, seen, Setting, opened_prediction, opened_correction, sets, with_drawn, changed}
use Rattle.filter.specs.Calls.{observed_numbers, opening, abandon, lend, line, asks, opened, draws, plan}
use Rattle.filter.specs.Steps.{step, answered}
use Rattle.filter.proofs.Sizes.{and_true, within_both}
use Rattle.filter.proofs.Order.{Passed, none, tested_early}
use Rattle.filter.proofs.Lines.{states_le, sized_le, long_le}
use Rattle.floats.proofs.Numbers.{floats_long}
use Rattle.filter.proofs.Seen.{states_seen, stage_seen}
use Rattle.filter.proofs.Taken.{Told, answering, refused_before, by_step, all_passed, finished, comes_refused, comes_made}

-- ---- by the stage

abbrev pub to_stage : Stage → Weighted → Setting
to_stage Shut = opened_prediction
to_stage Predicting = opened_prediction
to_stage Correcting = opened_correction
to_stage PredictingStepped = opened_prediction
to_stage CorrectingStepped = opened_prediction

pub set_opened : (s : Filter) (t : Stage) (d : Weighted) → is_whole t ≡ true → filter s.sheet (with_drawn s.track t d) ≡ changed s (sets (to_stage t d))
set_opened s Shut d h = absurd (false≢true h)
set_opened s Predicting d h = refl
set_opened s Correcting d h = refl
set_opened s PredictingStepped d h = absurd (false≢true h)
set_opened s CorrectingStepped d h = absurd (false≢true h)

-- what a fresh draw comes to
abbrev pub drawing : Format → Filter → Outcome (List Float)
drawing f s = draw_of f s.sheet.n s.track.x s.track.p (scale_of f s.sheet.n s.sheet.params)

pub drawing_is : (f : Format) (s : Filter) {n : ℕ} {x p : List Float} {scale : Float} {params : Params} → n ≡ s.sheet.n → x ≡ s.track.x → p ≡ s.track.p → scale ≡ scale_of f n params → params ≡ s.sheet.params → draw_of f n x p scale ≡ drawing f s
drawing_is f s e d c b a = cc

module _ (s : Filter) (t : Stage) (b : List Float) where
  pub opening_asks : line (is_shut s.track.stage) s.sheet.n [] (lend b (point_numbers s.sheet.n)) false [] [] ≡ asks (seen s) (opening t b)
  opening_asks = go t
    where
      go : (t : Stage) → line (is_shut s.track.stage) s.sheet.n [] (lend b (point_numbers s.sheet.n)) false [] [] ≡ asks (seen s) (opening t b)
      go Shut = refl
      go Predicting = refl
      go Correcting = refl
      go PredictingStepped = refl
      go CorrectingStepped = refl

  pub opening_in : (f : Format) → Passed f (asks (seen s) (opening t b)) → (s.sheet.n ≤ 8) × (point_numbers s.sheet.n ≤ length b)
  opening_in f p = let q = rw (sym opening_asks) at p in (sized_le f q, long_le f q)

module _ (f : Format) (s : Filter) (b : List Float) where
  -- a correction that isn't stale
  pub opening_current : (t : Stage) → (is_correcting t && not s.track.stale) ≡ true → plan f (seen s) (opening t b) ≡ finish (opened (to_stage t) s.sheet.n s.track.weights s.track.points)
  opening_current Shut h = absurd (false≢true h)
  opening_current Predicting h = absurd (false≢true h)
  opening_current PredictingStepped h = absurd (false≢true h)
  opening_current CorrectingStepped h = absurd (false≢true h)
  opening_current Correcting h = let e : s.track.stale ≡ false = not-true s.track.stale h in rw e

  pub opening_drawn : (t : Stage) → (is_correcting t && not s.track.stale) ≡ false → plan f (seen s) (opening t b) ≡ draws f (opened (to_stage t) s.sheet.n) s
  opening_drawn Shut h = refl
  opening_drawn Predicting h = refl
  opening_drawn PredictingStepped h = refl
  opening_drawn CorrectingStepped h = refl
  opening_drawn Correcting h = let e : s.track.stale ≡ true = not-false s.track.stale h in rw e

-- ---- as the code opens

module _ (f : Format) (s : Filter) (t : Stage) (b : List Float) where
  -- a is the answer, and w what is in the lent buffer then
  abbrev pub Opens : Answer → List Float → Type 0
  Opens a w = (a ≡ answered (step f s (opening t b))) × (w ≡ over (step f s (opening t b)).reply.given b)

  -- v is what the tests have told
  abbrev pub opening_told : {n k : ℕ} {shut sized : Bool} {v : Verdict} → n ≡ s.sheet.n → shut ≡ is_shut s.track.stage → sized ≡ in_range 1 8 n → k ≡ cond (leb n 8 && leb n 8) (observed_numbers n n) 0
      → v ≡ refusal (in_order shut sized (leb k (length b)) true false false nothing true true nothing) → Told f s (opening t b)
  opening_told {n} {k} {shut} {sized} {v} states e d c r = record {
    told = v;
    is =
        tested_early f _ nothing r e (d ∙ ap (in_range 1 8) states ∙ sym (and_true _))
        (λ h. ap (λ (j : ℕ). leb j (length b)) (c ∙ ap (λ (i : ℕ). cond (leb i 8 && leb i 8) (observed_numbers i i) 0) states ∙ within_both _ _ _ (states_le _ [] h) (states_le _ [] h)) ∙ sym (and_true _))
        refl refl refl (λ h. none) refl (λ h. refl)
        ∙ ap (first_refusal f) (opening_asks s t b);
  }

module _ {f : Format} {s : Filter} (t : Stage) (b : List Float) (by : Told f s (opening t b)) where
  pub opening_refused : (by.told.number ≡ 0 → ⊥) → Opens f s t b (answering by.told s) b
  opening_refused h = by_step by b (refused_before by h) refl refl

  module _ (z : by.told.number ≡ 0) where
    pub opening_room : {n : ℕ} → n ≡ s.sheet.n → (n ≤ 8) × (point_numbers n ≤ length b)
    opening_room e = rw e (opening_in s t b f (all_passed by z))

    -- nothing has been drawn
    pub opening_stopped : (is_correcting t && not s.track.stale) ≡ false → {r : Refusal} → refused r ≡ drawing f s → Opens f s t b (answering (verdict r) s) b
    opening_stopped h e = by_step by b (comes_refused by z (opened (to_stage t) s.sheet.n (weights_of f s.sheet.n s.sheet.params)) _ (opening_drawn f s b t h) e) refl refl

    -- opened with the weights w and the points p
    module _ (whole : is_whole t ≡ true) {n : ℕ} (states : n ≡ s.sheet.n) {a : Answer} {w p o : List Float} (gave : a ≡ answering taken (filter s.sheet (with_drawn s.track t (record { weights = w; points = p })))) (out : o ≡ over (take (point_numbers n) p) b) where
      pub opening_gave : (is_correcting t && not s.track.stale) ≡ true → w ≡ s.track.weights → p ≡ s.track.points → Opens f s t b a o
      opening_gave h d e =
          by_step by b (finished by z (opening_current f s b t h))
          (gave ∙ ap₂ (λ (x y : List Float). answering taken (filter s.sheet (with_drawn s.track t (record { weights = x; points = y })))) d e ∙ ap (answering taken) (set_opened s t _ whole))
          (out ∙ ap₂ (λ (i : ℕ) (y : List Float). over (take (point_numbers i) y) b) states e)

      pub opening_made : (is_correcting t && not s.track.stale) ≡ false → w ≡ weights_of f s.sheet.n s.sheet.params → accepted p ≡ drawing f s → Opens f s t b a o
      opening_made h d e =
          by_step by b (comes_made by z (opened (to_stage t) s.sheet.n (weights_of f s.sheet.n s.sheet.params)) _ (opening_drawn f s b t h) e)
          (gave ∙ ap (λ (x : List Float). answering taken (filter s.sheet (with_drawn s.track t (record { weights = x; points = p })))) d ∙ ap (answering taken) (set_opened s t _ whole))
          (out ∙ ap (λ (i : ℕ). over (take (point_numbers i) p) b) states)

-- ---- in the terms of the floats of what the code is handed

module _ {A : Type 0} {seen : (F : Type 0 → Type 0) → F A → F Float} (same : (P : (B : Type 0) → ((F : Type 0 → Type 0) → F B → F Float) → Type 0) → P Float (λ F x. x) → P A seen) where
  pub params_seen : (s : FilterOf A) → seen ParamsOf s.sheet.params ≡ (seen FilterOf s).sheet.params
  params_seen = same (λ B s. (a : FilterOf B) → s ParamsOf a.sheet.params ≡ (s FilterOf a).sheet.params) (λ a. refl)

  module _ {float : A → Float} {floats : List A → List Float} (law : (l : List A) → floats l ≡ map float l) (f : Format) (s : FilterOf A) (t : Stage) (out : List A) where
    -- the tests of an open call
    abbrev pub open_told : {k : ℕ} {shut sized : Bool} {v : Verdict} → shut ≡ is_shut s.track.stage → sized ≡ in_range 1 8 s.sheet.n → k ≡ cond (leb s.sheet.n 8 && leb s.sheet.n 8) (observed_numbers s.sheet.n s.sheet.n) 0
        → v ≡ refusal (in_order shut sized (leb k (length out)) true false false nothing true true nothing) → Told f (seen FilterOf s) (opening t (floats out))
    open_told {k} {shut} {sized} e d c r =
        opening_told f (seen FilterOf s) t (floats out) (sym (states_seen same s)) (e ∙ ap is_shut (sym (stage_seen same s))) d c
        (r ∙ ap (λ (i : ℕ). refusal (in_order shut sized (leb k i) true false false nothing true true nothing)) (sym (floats_long law out)))

    pub open_room : (by : Told f (seen FilterOf s) (opening t (floats out))) → by.told.number ≡ 0 → (s.sheet.n ≤ 8) × (point_numbers s.sheet.n ≤ length out)
    open_room by z = let r = opening_room t (floats out) by z (sym (states_seen same s)) in (r.0, omega (arith, r.1, floats_long law out))

  -- those of an abandon
  abbrev pub abandon_told : (f : Format) (s : FilterOf A) {shut sized : Bool} {v : Verdict} → shut ≡ is_shut s.track.stage → sized ≡ in_range 1 8 s.sheet.n → v ≡ refusal (in_order (not shut) sized true true false false nothing true true nothing) → Told f (seen FilterOf s) abandon
  abandon_told f s {v = v} e d r = record {
    told = v;
    is = tested_early f _ nothing r (ap not (e ∙ ap is_shut (sym (stage_seen same s)))) (d ∙ ap (in_range 1 8) (sym (states_seen same s)) ∙ sym (and_true _)) (λ h. refl) refl refl refl (λ h. none) refl (λ h. refl);
  }
