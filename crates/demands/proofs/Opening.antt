-- Opening never answers one of 51 to 56, nor 6: stored numbers are finite, and stored parameters have passed 6, so N has a root. Assumes nothing.
use Prim.Native.Nat.{ℕ, ◌<◌, ◌≤◌}
use mathlib.Core.Path.{◌≡◌, refl}
use mathlib.Core.Bool.{Bool, true, false, ◌&&◌, cond}
use mathlib.Core.List.{List}
use mathlib.Core.Logic.{◌≢◌, ◌⊎◌, inl, inr, ⊎_elim}
use native.Mathlib.Omega.{arith}
use lib.Dec.{leb}
use lib.ListN.{length, take}
use lib.Ieee.{Float, Format}
use Rattle.floats.specs.declared.Refusal.{Refusal}
use Rattle.floats.specs.declared.Refusal.TheVariants.{Size as SIZE, Short as SHORT, Stage as STAGE, Pivot as PIVOT, Range as RANGE}
use Rattle.floats.specs.Refusal.{Outcome, refused, accepted, unless, onward}
use Rattle.floats.specs.Numbers.{all_finite, above_zero}
use Rattle.floats.specs.Search.{searched}
use Rattle.floats.proofs.Refusals.{slice_above}
use Rattle.root.specs.Definition.{rooted}
use Rattle.root.proofs.Answers.{above_rooted}
use Rattle.matrix.specs.Results.{worked, listed, Plan, finish, run}
use Rattle.matrix.specs.Factor.{factor_of}
use Rattle.matrix.proofs.FactorLaws.{Stopped, at_pivot, at_entry, is_stopped}
use Rattle.matrix.proofs.Mapped.{run_mapped}
use Rattle.sigma.specs.Weights.{scale_of, weights_of, weights_pass}
use Rattle.sigma.specs.Draw.{point_numbers, points_of, draw_plan}
use Rattle.filter.specs.Types.{Filter}
use Rattle.filter.specs.Asked.{in_range}
use Rattle.filter.specs.Filters.{is_shut, seen, opened_prediction, opened_correction, opened_prediction_stepped, opened_correction_stepped}
use Rattle.filter.specs.Calls.{Call, Done, opened, opened_stepped, draws, draws_current}
use Rattle.filter.specs.Steps.{stepped, step}
use Rattle.demands.specs.Rows.{IsOpen, of_prediction, of_correction, of_prediction_stepped, of_correction_stepped, Neither}
use Rattle.demands.specs.Sound.{Sound, Yielded}
use Rattle.demands.proofs.Passed.{both}
use Rattle.demands.proofs.Listed.{drawing}
use Rattle.demands.proofs.Fine.{in_range_lem}
use Rattle.demands.proofs.Sound.{sound}

-- refused by 7 or 9, or accepted
abbrev Late : {A : Type 0} → Outcome A → Type 0
Late (refused r) = ((j : ℕ) × (r ≡ PIVOT j)) ⊎ (r ≡ RANGE)
Late (accepted a) = Unit {0}

module _ {A B : Type 0} where
  onward_late : (o : Outcome A) (k : A → Outcome B) → Late o → ((a : A) → Late (k a)) → Late (onward o k)
  onward_late (refused r) k h g = h
  onward_late (accepted a) k h g = g a

-- a number below 51 that isn't 6
below : {k : ℕ} → k < 51 → k ≢ 6 → Neither k
below h n = (λ s z. omega (arith, slice_above s), n)

late_number : (s : Filter) (o : Outcome Done) → Late o → Neither (stepped s o).reply.refusal.number
late_number s (refused r) h = ⊎_elim (λ e. rw e.1 (below (omega arith) (λ z. omega arith))) (λ e. rw e (below (omega arith) (λ z. omega arith))) h
late_number s (accepted d) h = below (omega arith) (λ z. omega arith)

-- 3, 1 or 2 in front
early : (s : Filter) (t u v : Bool) (o : Outcome Done) → (u ≡ true → Late o) → Neither (stepped s (unless t STAGE (unless u SIZE (unless v SHORT o)))).reply.refusal.number
early s false u v o h = below (omega arith) (λ z. omega arith)
early s true false v o h = below (omega arith) (λ z. omega arith)
early s true true false o h = below (omega arith) (λ z. omega arith)
early s true true true o h = late_number s o (h refl)

module _ (f : Format) where
  factor_late : (a : List Float) (n : ℕ) → n ≤ 8 → Late (worked (factor_of f PIVOT a n))
  factor_late a n h = go (worked (factor_of f PIVOT a n)) refl
    where
      why : (r : Refusal) → Stopped f PIVOT a n r → ((j : ℕ) × (r ≡ PIVOT j)) ⊎ (r ≡ RANGE)
      why r (at_pivot j l g p t) = inl (j, refl)
      why r (at_entry i j l g k p t) = inr refl

      go : (o : Outcome (List Float)) → worked (factor_of f PIVOT a n) ≡ o → Late o
      go (refused r) e = why r (is_stopped f PIVOT a n h r e)
      go (accepted l) e = tt

  listed_late : {A : Type 0} (t : Bool) (a : A) → Late (unless t RANGE (accepted a))
  listed_late true a = tt
  listed_late false a = inr refl

  draw_late : (n : ℕ) (x p : List Float) (scale : Float) → n ≤ 8 → rooted scale ≡ true → Late (run (draw_plan f n x p scale))
  unfolding run worked
  draw_late n x p scale h g =
      onward_late (worked (factor_of f PIVOT p n)) _ (factor_late p n h) (λ l.
      rw g (onward_late (worked (listed (point_numbers n) (points_of f n x l _))) _ (listed_late (all_finite (take (point_numbers n) (points_of f n x l _))) _) (λ v. tt)))

  module _ (s : Filter) (o : Sound f s) (h : 1 ≤ s.sheet.n) where
    draws_late : (to : List Float → List Float → Done) → Late (run (draws f to (seen s)))
    unfolding weights_pass
    draws_late to =
        rw (run_mapped (to (weights_of f s.sheet.n s.sheet.params)) (drawing f (seen s)))
        (onward_late (run (drawing f (seen s))) _
        (draw_late s.sheet.n s.track.x s.track.p (scale_of f s.sheet.n s.sheet.params) o.small (above_rooted (scale_of f s.sheet.n s.sheet.params) (both {a = above_zero (scale_of f s.sheet.n s.sheet.params)} (o.passed h)).0))
        (λ v. tt))

  module _ (s : Filter) (o : Sound f s) where
    sized : in_range 1 8 s.sheet.n && true ≡ true → 1 ≤ s.sheet.n
    sized h = (in_range_lem 1 8 s.sheet.n (both {a = in_range 1 8 s.sheet.n} h).0).0

    current_late : (to : List Float → List Float → Done) → 1 ≤ s.sheet.n → Late (run (draws_current f to (seen s)))
    unfolding run
    current_late to h = either s.track.stale (draws f to (seen s)) (finish (to (seen s).track.weights (seen s).track.points)) (draws_late s o h to) tt
      where
        either : (t : Bool) (p q : Plan Done) → Late (run p) → Late (run q) → Late (run (cond t p q))
        either true p q i j = i
        either false p q i j = j

    -- 3, 1 or 2 in front of the steps; a stepped open is lent nothing, so that it has no 2
    late_open : (v : Bool) (q : Outcome Done) → (1 ≤ s.sheet.n → Late q) → Neither (stepped s (unless (is_shut s.track.stage) STAGE (unless (in_range 1 8 s.sheet.n && true) SIZE (unless v SHORT q)))).reply.refusal.number
    late_open v q late = early s (is_shut s.track.stage) (in_range 1 8 s.sheet.n && true) v q (λ h. late (sized h))

    sound_open : {c : Call} → IsOpen c → Neither (step f s c).reply.refusal.number
    unfolding step searched
    sound_open (of_prediction {b = b}) = late_open (leb (point_numbers s.sheet.n) (length b) && true) (run (draws f (opened opened_prediction s.sheet.n) (seen s))) (λ h. draws_late s o h (opened opened_prediction s.sheet.n))
    sound_open (of_correction {b = b}) = late_open (leb (point_numbers s.sheet.n) (length b) && true) (run (draws_current f (opened opened_correction s.sheet.n) (seen s))) (current_late (opened opened_correction s.sheet.n))
    sound_open of_prediction_stepped = late_open true (run (draws f (opened_stepped opened_prediction_stepped) (seen s))) (λ h. draws_late s o h (opened_stepped opened_prediction_stepped))
    sound_open of_correction_stepped = late_open true (run (draws_current f (opened_stepped opened_correction_stepped) (seen s))) (current_late (opened_stepped opened_correction_stepped))

  -- OPENING NEVER ANSWERS ONE OF 51 TO 56, NOR 6
  pub opening_never : {s : Filter} → Yielded f s → {c : Call} → IsOpen c → Neither (step f s c).reply.refusal.number
  opening_never {s} y i = sound_open s (sound f y) i
