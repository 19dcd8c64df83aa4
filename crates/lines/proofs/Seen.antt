-- Parts of a filter over `Number` in the terms of their floats, beside those of crates/filter/proofs/Seen.antt. Each law takes the `same` of the bound first, and where it speaks of a list the `floats_seen_law` before it. Assumes nothing.
use mathlib.Core.Path.{◌≡◌, refl, ◌∙◌}
use mathlib.Core.List.{List}
use lib.Ieee.{Float}
use Rattle.angles.specs.declared.Kind.{Kind}
use Rattle.filter.specs.declared.Filter.{Filter}

module _ {A : Type 0} {seen : (F : Type 0 → Type 0) → F A → F Float} (same : (P : (B : Type 0) → ((F : Type 0 → Type 0) → F B → F Float) → Type 0) → P Float (λ F x. x) → P A seen) where
  pub kinds_seen : (s : Filter A) → (seen Filter s).sheet.kinds ≡ seen (λ B. List (Kind B)) s.sheet.kinds
  kinds_seen = same (λ B s. (a : Filter B) → (s Filter a).sheet.kinds ≡ s (λ C. List (Kind C)) a.sheet.kinds) (λ a. refl)

  pub at_seen : (s : Filter A) → (seen Filter s).track.kept.at ≡ s.track.kept.at
  at_seen = same (λ B s. (a : Filter B) → (s Filter a).track.kept.at ≡ a.track.kept.at) (λ a. refl)

  pub asked_seen : (s : Filter A) → (seen Filter s).track.kept.asked ≡ s.track.kept.asked
  asked_seen = same (λ B s. (a : Filter B) → (s Filter a).track.kept.asked ≡ a.track.kept.asked) (λ a. refl)

  pub m_seen : (s : Filter A) → (seen Filter s).track.kept.m ≡ s.track.kept.m
  m_seen = same (λ B s. (a : Filter B) → (s Filter a).track.kept.m ≡ a.track.kept.m) (λ a. refl)

module _ {A : Type 0} {floats : List A → List Float} {seen : (F : Type 0 → Type 0) → F A → F Float} (law : (l : List A) → floats l ≡ seen List l) (same : (P : (B : Type 0) → ((F : Type 0 → Type 0) → F B → F Float) → Type 0) → P Float (λ F x. x) → P A seen) where
  pub images_seen : (s : Filter A) → floats s.track.kept.images ≡ (seen Filter s).track.kept.images
  images_seen s = law s.track.kept.images ∙ same (λ B s. (a : Filter B) → s List a.track.kept.images ≡ (s Filter a).track.kept.images) (λ a. refl) s
