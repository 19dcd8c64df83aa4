-- Code over `Number` in the terms of its floats: parameters, weights and moments, and an item of a list. Assumes nothing.
use Prim.Native.Nat.{ℕ, ◌<◌}
use mathlib.Core.Path.{◌≡◌, refl}
use mathlib.Core.List.{List}
use lib.ListN.{length, get_or}
use lib.Ieee.{Float}
use Rattle.std.proofs.lemmas.List.{get_or_default}
use Rattle.sigma.specs.declared.Params.{Params}
use Rattle.sigma.specs.declared.Moments.{Moments}
use Rattle.sigma.specs.declared.weights.Weighting.{Weighting}

module _ {A : Type 0} {float : A → Float} {seen : (F : Type 0 → Type 0) → F A → F Float} (law : (x : A) → float x ≡ seen (λ B. B) x) (same : (P : (B : Type 0) → ((F : Type 0 → Type 0) → F B → F Float) → Type 0) → P Float (λ F x. x) → P A seen) where
  pub seen_params : (p : Params A) → seen Params p ≡ record { alpha = float p.alpha; beta = float p.beta; kappa = float p.kappa }
  seen_params p = rw (law p.alpha, law p.beta, law p.kappa) (same (λ B s. (q : Params B) → s Params q ≡ record { alpha = s (λ C. C) q.alpha; beta = s (λ C. C) q.beta; kappa = s (λ C. C) q.kappa }) (λ q. refl) p)

  pub seen_weighting : (v : Weighting A) → seen Weighting v ≡ record { scale = float v.scale; w0m = float v.w0m; w0c = float v.w0c; wi = float v.wi }
  seen_weighting v =
      rw (law v.scale, law v.w0m, law v.w0c, law v.wi)
      (same (λ B s. (u : Weighting B) → s Weighting u ≡ record { scale = s (λ C. C) u.scale; w0m = s (λ C. C) u.w0m; w0c = s (λ C. C) u.w0c; wi = s (λ C. C) u.wi }) (λ u. refl) v)

module _ {A : Type 0} {floats : List A → List Float} {seen : (F : Type 0 → Type 0) → F A → F Float} (law : (l : List A) → floats l ≡ seen List l) (same : (P : (B : Type 0) → ((F : Type 0 → Type 0) → F B → F Float) → Type 0) → P Float (λ F x. x) → P A seen) where
  pub seen_moments : (m : Moments A) → seen Moments m ≡ record { x = floats m.x; p = floats m.p }
  seen_moments m = rw (law m.x, law m.p) (same (λ B s. (u : Moments B) → s Moments u ≡ record { x = s List u.x; p = s List u.p }) (λ u. refl) m)

module _ {A : Type 0} {seen : (F : Type 0 → Type 0) → F A → F Float} (same : (P : (B : Type 0) → ((F : Type 0 → Type 0) → F B → F Float) → Type 0) → P Float (λ F x. x) → P A seen) (F : Type 0 → Type 0) where
  -- what is read at place i of l, such as a kind
  pub seen_at : (l : List (F A)) (i : ℕ) (d : F A) (z : F Float) → i < length l → seen F (get_or l i d) ≡ get_or (seen (λ B. List (F B)) l) i z
  seen_at l i d z h = same (λ B s. (k : List (F B)) (e : F B) → i < length k → s F (get_or k i e) ≡ get_or (s (λ C. List (F C)) k) i z) (λ k e g. get_or_default k i e z g) l d h
