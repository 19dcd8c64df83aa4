-- A plan with its answer passed through a function (`mapped` of specs/Results.antt): it comes to what the plan comes to, passed on, and has the same results. Assumes nothing.
use mathlib.Core.Path.{◌≡◌, refl, ap}
use mathlib.Core.List.{List, ◌++◌}
use Rattle.floats.specs.Refusal.{Outcome, refused, accepted, onward}
use Rattle.matrix.specs.Results.{Result, worked, results, product, Plan, finish, after, run, planned, mapped}

module _ {A B : Type 0} (g : A → B) where
  onward_on : {C : Type 0} (o : Outcome C) (k : C → Plan A) → ((c : C) → run (mapped g (k c)) ≡ onward (run (k c)) (λ (a : A). accepted (g a))) → onward o (λ (c : C). run (mapped g (k c))) ≡ onward (onward o (λ (c : C). run (k c))) (λ (a : A). accepted (g a))
  onward_on (refused r) k e = refl
  onward_on (accepted c) k e = e c

  pub run_mapped : (p : Plan A) → run (mapped g p) ≡ onward (run p) (λ (a : A). accepted (g a))
  unfolding run
  run_mapped (finish a) = refl
  run_mapped (after w k) = onward_on (worked w) k (λ b. run_mapped (k b))

  pub planned_mapped : (p : Plan A) → planned (mapped g p) ≡ planned p
  planned_mapped (finish a) = refl
  planned_mapped (after w k) = ap (λ (vs : List Result). results w ++ vs) (planned_mapped (k (product w)))
