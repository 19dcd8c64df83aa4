-- Code that follows a plan: what the test of a listed result answered. Assumes nothing.
use Prim.Native.Nat.{ℕ}
use mathlib.Core.Path.{◌≡◌, refl, sym, ap, ◌∙◌}
use mathlib.Core.List.{List}
use mathlib.Core.Logic.{⊎_elim}
use lib.ListN.{take}
use lib.Ieee.{Float}
use Rattle.floats.specs.declared.Refusal.{Refusal}
use Rattle.floats.specs.declared.Refusal.TheVariants.{Range as RANGE}
use Rattle.floats.specs.Refusal.{Outcome, refused, accepted, unless}
use Rattle.floats.specs.Numbers.{all_finite}
use Rattle.floats.proofs.Refusals.{refused_never, passed, failed}
use Rattle.matrix.specs.Results.{listed, Plan, after}
use Rattle.matrix.proofs.Results.{Comes, goes, stops}

-- v is the plan's next result, of which the first m numbers are tested, and q what the test answered
module _ {A : Type 0} {o : Outcome A} {v : List Float} {κ : List Float → Plan A} (m : ℕ) (at : Comes o (after (listed m v) κ)) {u : List Float} (e : u ≡ v) {q : Outcome (Unit {0})} (told : q ≡ unless (all_finite (take m u)) RANGE (accepted tt)) where
  pub listed_goes : {y : Unit {0}} → q ≡ accepted y → Comes o (κ u)
  listed_goes {y} t = goes m at e refl (passed (all_finite (take m u)) RANGE (accepted tt) y (sym told ∙ t)).0

  pub listed_stops : {r : Refusal} → q ≡ refused r → o ≡ refused r
  listed_stops {r} t =
      ⊎_elim (λ h. stops m at e refl h.0 ∙ ap refused h.1) (λ h. absurd (refused_never (sym h.1))) (failed (all_finite (take m u)) RANGE r (accepted tt) (sym told ∙ t))
