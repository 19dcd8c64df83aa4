-- Code that follows a plan: how far it has come, and a listed result that it has made and tested. Assumes nothing.
use Prim.Native.Nat.{ℕ}
use mathlib.Core.Path.{◌≡◌}
use mathlib.Core.Bool.{Bool, true, false}
use mathlib.Core.List.{List}
use lib.ListN.{take}
use lib.Ieee.{Float}
use Rattle.floats.specs.declared.Refusal.TheVariants.{Range as RANGE}
use Rattle.floats.specs.Refusal.{Outcome, refused}
use Rattle.floats.specs.Numbers.{all_finite}
use Rattle.matrix.specs.Results.{listed, Plan, after}
use Rattle.matrix.proofs.Results.{Comes, goes, stops}

-- what is left of the plan, which comes to the outcome o
pub record Reached {A : Type 0} (o : Outcome A) : Type 1 where
  pub plan : Plan A
  pub comes : Comes o plan

-- the plan's next result is v, the code has made u, and b is what the test of its first m numbers said
pub record Tested {A : Type 0} (o : Outcome A) (b : Bool) : Type 1 where
  pub m : ℕ
  pub v : List Float
  pub κ : List Float → Plan A
  pub comes : Comes o (after (listed m v) κ)
  pub u : List Float
  pub same : u ≡ v
  pub told : b ≡ all_finite (take m u)

module _ {A : Type 0} {o : Outcome A} where
  abbrev pub tested : {v : List Float} {κ : List Float → Plan A} (m : ℕ) → Comes o (after (listed m v) κ) → {u : List Float} → u ≡ v → {b : Bool} → b ≡ all_finite (take m u) → Tested o b
  tested {v} {κ} m at {u} e {b} t = record { m = m; v = v; κ = κ; comes = at; u = u; same = e; told = t }

  -- the code leaves where not b
  abbrev pub passes : {b : Bool} → Tested o b → b ≡ true → Reached o
  passes s h = record { plan = s.κ s.u; comes = goes s.m s.comes s.same s.told h }

  pub fails : {b : Bool} → Tested o b → b ≡ false → o ≡ refused RANGE
  fails s h = stops s.m s.comes s.same s.told h
