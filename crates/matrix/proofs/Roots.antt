-- The outcome o of a root of x, over the format: accepted, it is the root of a number that has one; a number finite and above 0 is never refused. Assumes nothing.
use mathlib.Core.Path.{◌≡◌, sym, ◌∙◌}
use mathlib.Core.Bool.{true, false, true≢false}
use mathlib.Core.Logic.{⊎_elim}
use lib.Ieee.{Float, Format}
use Rattle.floats.specs.declared.Refusal.{Refusal}
use Rattle.floats.specs.Refusal.{bad_lone, Outcome, refused, accepted}
use Rattle.floats.specs.Numbers.{above_zero}
use Rattle.floats.proofs.Refusals.{refused_never, passed, failed}
use Rattle.root.specs.Definition.{root_of, rooted}
use Rattle.root.specs.Answer.{root_outcome}
use Rattle.root.proofs.Answers.{above_rooted}

module _ (f : Format) (x : Float) {o : Outcome Float} (told : o ≡ root_outcome f x) where
  pub root_value : {d : Float} → o ≡ accepted d → (rooted x ≡ true) × (root_of f x ≡ d)
  root_value {d} h =
      let k = passed (rooted x) bad_lone (accepted (root_of f x)) d (sym told ∙ h) in
      let e : accepted (root_of f x) ≡ accepted d = k.1 in
      (k.0, cc)

  pub root_refused : {r : Refusal} → o ≡ refused r → (rooted x ≡ false) × (r ≡ bad_lone)
  root_refused {r} h = ⊎_elim (λ k. (k.0, sym k.1)) (λ k. absurd (refused_never (sym k.1))) (failed (rooted x) bad_lone r (accepted (root_of f x)) (sym told ∙ h))

  -- of a pivot x that has passed
  module _ (t : above_zero x ≡ true) where
    pub above_value : {d : Float} → o ≡ accepted d → d ≡ root_of f x
    above_value h = sym (root_value h).1

    pub above_never : {r : Refusal} → o ≡ refused r → ⊥
    above_never h = true≢false (sym (above_rooted x t) ∙ (root_refused h).0)
