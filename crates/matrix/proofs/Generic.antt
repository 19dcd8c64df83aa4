-- Code over `Number` in the terms of its floats: an array of +0, a place that is read, and what a call answered. Assumes nothing.
use Prim.Native.Nat.{ℕ, ◌<◌}
use mathlib.Core.Path.{◌≡◌, refl, sym, ap, ◌∙◌}
use mathlib.Core.List.{List, map}
use Rattle.std.specs.Prelude.{pos}
use lib.ListN.{length, get_or, replicate}
use lib.Ieee.{Float, Format, nan, of_int, binary32, binary64}
use Rattle.floats.specs.declared.Refusal.{Refusal}
use Rattle.floats.specs.Refusal.{Outcome, refused, accepted}
use Rattle.floats.specs.Numbers.{plus_zero, one, zeros}
use Rattle.floats.proofs.Numbers.{floats_at, floats_replicate}

pub one_is : (f : Format) → of_int f (pos 1) ≡ one
unfolding of_int
one_is binary32 = refl
one_is binary64 = refl

module _ {A : Type 0} {float : A → Float} {floats : List A → List Float} (law : (l : List A) → floats l ≡ map float l) where
  -- k places of a v that is the zero o
  pub blank : (k : ℕ) {v o : A} → v ≡ o → float o ≡ plus_zero → floats (replicate k v) ≡ zeros k
  unfolding zeros
  blank k {v} e q = floats_replicate law k v ∙ ap (replicate k) (ap float e ∙ q)

  -- what is read at place i of l
  pub read : (l : List A) (i : ℕ) (x : A) → i < length l → float (get_or l i x) ≡ get_or (floats l) i nan
  read l i x h = sym (floats_at law l i nan x h)

  -- by another name of the place
  pub read_as : (l : List A) (i : ℕ) (x : A) {p : ℕ} → i ≡ p → i < length l → float (get_or l i x) ≡ get_or (floats l) p nan
  read_as l i x e h = read l i x h ∙ ap (λ (k : ℕ). get_or (floats l) k nan) e

-- ---- what a call answered, as an outcome of floats

module _ {A : Type 0} {seen : (F : Type 0 → Type 0) → F A → F Float} (same : (P : (B : Type 0) → ((F : Type 0 → Type 0) → F B → F Float) → Type 0) → P Float (λ F x. x) → P A seen) (F : Type 0 → Type 0) where
  pub seen_accepted : (x : F A) → seen (λ B. Outcome (F B)) (accepted x) ≡ accepted (seen F x)
  seen_accepted = same (λ B s. (x : F B) → s (λ C. Outcome (F C)) (accepted x) ≡ accepted (s F x)) (λ x. refl)

  pub seen_refused : (r : Refusal) → seen (λ B. Outcome (F B)) (refused r) ≡ refused r
  seen_refused r = same (λ B s. s (λ C. Outcome (F C)) (refused r) ≡ refused r) refl

  module _ {q : Outcome (F A)} {o : Outcome (F Float)} (told : seen (λ B. Outcome (F B)) q ≡ o) where
    pub was_accepted : {x : F A} → q ≡ accepted x → accepted (seen F x) ≡ o
    was_accepted {x} e = sym (seen_accepted x) ∙ sym (ap (seen (λ B. Outcome (F B))) e) ∙ told

    pub was_refused : {r : Refusal} → q ≡ refused r → refused r ≡ o
    was_refused {r} e = sym (seen_refused r) ∙ sym (ap (seen (λ B. Outcome (F B))) e) ∙ told
