-- What is read at a width, over `Number`: nothing, or a number or a kind with the place after it. Each law takes the `same` of the bound first, as `g.T.Number.same`. Assumes nothing.
use Prim.Native.Nat.{ℕ}
use mathlib.Core.Path.{◌≡◌, refl, sym, ap, ◌∙◌}
use lib.Ieee.{Float}
use Rattle.std.specs.Prelude.{Option, None, Some}
use Rattle.angles.specs.declared.Kind.{Kind}
use Rattle.angles.specs.declared.Kind.TheVariants.{Plain, Turn}
use Rattle.script.specs.Text.{found}
use Rattle.script.specs.Numbers.{turn_of}
use Rattle.script.specs.declared.text.Read.{Read}

module _ {T : Type 0} {seen : (F : Type 0 → Type 0) → F T → F Float} (same : (P : (A : Type 0) → ((F : Type 0 → Type 0) → F A → F Float) → Type 0) → P Float (λ F x. x) → P T seen) where
  pub no_number : seen (λ A. Option (Read A)) None ≡ None
  no_number = same (λ A s. s (λ A. Option (Read A)) None ≡ None) refl

  pub number_found : {float : T → Float} → ((x : T) → float x ≡ seen (λ A. A) x) → (x : T) (next : ℕ) → seen (λ A. Option (Read A)) (found x next) ≡ found (float x) next
  number_found law x next = found_seen x next ∙ ap (λ (y : Float). found y next) (sym (law x))
    where
      found_seen : (x : T) (next : ℕ) → seen (λ A. Option (Read A)) (found x next) ≡ found (seen (λ A. A) x) next
      found_seen = same (λ A s. (x : A) (next : ℕ) → s (λ A. Option (Read A)) (found x next) ≡ found (s (λ A. A) x) next) (λ x next. refl)

  pub no_kind : seen (λ A. Option (Read (Kind A))) None ≡ None
  no_kind = same (λ A s. s (λ A. Option (Read (Kind A))) None ≡ None) refl

  pub plain_found : (next : ℕ) → seen (λ A. Option (Read (Kind A))) (found Plain next) ≡ found Plain next
  plain_found = same (λ A s. (next : ℕ) → s (λ A. Option (Read (Kind A))) (found Plain next) ≡ found Plain next) (λ next. refl)

  -- a turn with the half-turn that was read, or none
  pub turn_found : (h : Read T) → seen (λ A. Option (Read (Kind A))) (found (Turn h.value) h.next) ≡ turn_of (seen (λ A. Option (Read A)) (Some h))
  turn_found = same (λ A s. (h : Read A) → s (λ A. Option (Read (Kind A))) (found (Turn h.value) h.next) ≡ turn_of (s (λ A. Option (Read A)) (Some h))) (λ h. refl)
