-- The steps of a call give what is theirs alone: those of an open 7, 56 at 0 and 9, those of a close of a correction 8 and 9. Assumes nothing.
use Prim.Native.Nat.{ℕ, zero, suc, ◌+◌, ◌-◌, ◌*◌}
use mathlib.Core.Path.{refl}
use mathlib.Core.List.{List, [], ◌∷◌, ◌++◌}
use mathlib.Core.Logic.{inl, inr}
use lib.ListN.{set}
use lib.Ieee.{Float, Format, div}
use Rattle.floats.specs.declared.Refusal.{Refusal}
use Rattle.floats.specs.declared.Refusal.TheVariants.{Range as RANGE, Pivot as PIVOT, Innovation as INNOV}
use Rattle.root.specs.Definition.{root_of}
use Rattle.matrix.specs.Results.{Result, refusal_of, results, product, planned}
use Rattle.matrix.specs.Factor.{left_of, rows_from, column_of, columns_from, factor_of}
use Rattle.matrix.proofs.Results.{results_then}
use Rattle.sigma.specs.Draw.{draw_plan}
use Rattle.correction.specs.Correct.{Head, apply_plan}
use Rattle.filter.specs.Calls.{Call}
use Rattle.demands.specs.Rows.{FirstFails, now, later, IsOpen, IsClose, IsCorrection, ByStep}
use Rattle.demands.specs.Sound.{Each, end, and}

module _ (c : Call) where
  -- results that a step of this call can be refused by
  abbrev pub StepsOwn : List Result → Type 0
  StepsOwn vs = Each (λ (v : Result). ByStep c (refusal_of v)) vs

  -- so whatever is met first is one of them
  pub met_by_step : {r : Refusal} {vs : List Result} → StepsOwn vs → FirstFails r vs → ByStep c r
  met_by_step end w = elim w [ ]
  met_by_step (and h e) (now b) = h
  met_by_step (and h e) (later n w) = met_by_step e w

  own_append : (us vs : List Result) → StepsOwn us → StepsOwn vs → StepsOwn (us ++ vs)
  own_append [] vs e g = g
  own_append (u ∷ us) vs (and h e) g = and h (own_append us vs e g)

  module _ (f : Format) where
    -- ---- the factor

    module _ (r : ℕ → Refusal) (own : (j : ℕ) → ByStep c (r j)) (range : ByStep c RANGE) (a : List Float) (n : ℕ) where
      rows_own : (j : ℕ) (d : Float) (m i : ℕ) (l : List Float) → StepsOwn (results (rows_from f r a n j d m i l))
      unfolding rows_from
      rows_own j d zero i l = end
      rows_own j d (suc m) i l = and range (rows_own j d m (i + 1) (set l (i * n + j) (div f (left_of f a n i j l) d)))

      column_own : (j : ℕ) (l : List Float) → StepsOwn (results (column_of f r a n j l))
      unfolding column_of
      column_own j l = let d = root_of f (left_of f a n j j l) in and (own j) (rows_own j d (n - (j + 1)) (j + 1) (set l (j * n + j) d))

      columns_own : (m j : ℕ) (l : List Float) → StepsOwn (results (columns_from f r a n m j l))
      unfolding columns_from
      columns_own zero j l = end
      columns_own (suc m) j l =
          rw (results_then (column_of f r a n j l) (λ (k : List Float). columns_from f r a n m (j + 1) k))
          (own_append (results (column_of f r a n j l)) _ (column_own j l) (columns_own m (j + 1) (product (column_of f r a n j l))))

      factor_own : StepsOwn (results (factor_of f r a n))
      factor_own = columns_own n 0 _

    -- ---- the steps of an opening that draws, and of a correction

    pub draw_own : IsOpen c → (n : ℕ) (x p : List Float) (scale : Float) → StepsOwn (planned (draw_plan f n x p scale))
    draw_own o n x p scale = own_append (results (factor_of f PIVOT p n)) _ (factor_own PIVOT (λ j. o) (inl o) p n) (and (refl, o) (and (inl o) end))

    pub correct_own : IsClose c → IsCorrection c → (h : Head) → StepsOwn (planned (apply_plan f h))
    correct_own k o h =
        let range : ByStep c RANGE = inr k in
        let factor = factor_own INNOV (λ j. o) range h.s h.m in
        and range (and range (and range (and range (own_append (results (factor_of f INNOV h.s h.m)) _ factor (and range (and range (and range (and range (and range end)))))))))
