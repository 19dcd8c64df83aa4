-- An outcome at a width, seen as one of floats: `same` is that of the trait `Number`. Assumes nothing.
use mathlib.Core.Path.{◌≡◌, refl}
use lib.Ieee.{Float}
use Rattle.floats.specs.declared.Refusal.{Refusal}
use Rattle.floats.specs.Refusal.{Outcome, accepted, refused}

module _ {A : Type 0} {seen : (F : Type 0 → Type 0) → F A → F Float} (same : (P : (B : Type 0) → ((F : Type 0 → Type 0) → F B → F Float) → Type 0) → P Float (λ F x. x) → P A seen) (F : Type 0 → Type 0) where
  pub seen_accepted : (x : F A) → seen (λ B. Outcome (F B)) (accepted x) ≡ accepted (seen F x)
  seen_accepted = same (λ B s. (x : F B) → s (λ C. Outcome (F C)) (accepted x) ≡ accepted (s F x)) (λ x. refl)

  pub seen_refused : (r : Refusal) → seen (λ B. Outcome (F B)) (refused r) ≡ refused r
  seen_refused r = same (λ B s. s (λ C. Outcome (F C)) (refused r) ≡ refused r) refl
