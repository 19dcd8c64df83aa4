-- Kinds over `Number`: the kind of floats that a kind is (what `seen` makes of it), and a list of kinds place by place. Each law takes the `same` of the bound first, as `g.T.Number.same`. Assumes nothing.
use Prim.Native.Nat.{ℕ, zero, suc, ◌<◌}
use mathlib.Core.Path.{◌≡◌, refl}
use mathlib.Core.List.{List, [], ◌∷◌}
use native.Mathlib.Omega.{arith}
use lib.ListN.{length, take, drop, get_or, set, replicate}
use lib.Ieee.{Float}
use Rattle.std.specs.Prelude.{Result, Ok, Err}
use Rattle.floats.specs.declared.Refusal.{Refusal}
use Rattle.angles.specs.declared.Kind.{Kind}
use Rattle.angles.specs.declared.Kind.TheVariants.{Plain, Turn}

module _ {T : Type 0} {seen : (F : Type 0 → Type 0) → F T → F Float} (same : (P : (A : Type 0) → ((F : Type 0 → Type 0) → F A → F Float) → Type 0) → P Float (λ F x. x) → P T seen) where
  -- ---- a kind
  pub plain_seen : seen Kind Plain ≡ Plain
  plain_seen = same (λ A s. s Kind Plain ≡ Plain) refl

  pub turn_seen : (h : T) → seen Kind (Turn h) ≡ Turn (seen (λ A. A) h)
  turn_seen = same (λ A s. (h : A) → s Kind (Turn h) ≡ Turn (s (λ A. A) h)) (λ h. refl)

  -- ---- what a call answers
  pub refused_seen : (r : Refusal) → seen (λ A. Result A Refusal) (Err r) ≡ Err r
  refused_seen = same (λ A s. (r : Refusal) → s (λ A. Result A Refusal) (Err r) ≡ Err r) (λ r. refl)

  pub accepted_seen : (x : T) → seen (λ A. Result A Refusal) (Ok x) ≡ Ok (seen (λ A. A) x)
  accepted_seen = same (λ A s. (x : A) → s (λ A. Result A Refusal) (Ok x) ≡ Ok (s (λ A. A) x)) (λ x. refl)

  pub kind_refused : (r : Refusal) → seen (λ A. Result (Kind A) Refusal) (Err r) ≡ Err r
  kind_refused = same (λ A s. (r : Refusal) → s (λ A. Result (Kind A) Refusal) (Err r) ≡ Err r) (λ r. refl)

  pub kind_accepted : (k : Kind T) → seen (λ A. Result (Kind A) Refusal) (Ok k) ≡ Ok (seen Kind k)
  kind_accepted = same (λ A s. (k : Kind A) → s (λ A. Result (Kind A) Refusal) (Ok k) ≡ Ok (s Kind k)) (λ k. refl)

  -- ---- a list of kinds
  pub kinds_long : (l : List (Kind T)) → length (seen (λ A. List (Kind A)) l) ≡ length l
  kinds_long = same (λ A s. (l : List (Kind A)) → length (s (λ A. List (Kind A)) l) ≡ length l) (λ l. refl)

  pub kinds_at : (l : List (Kind T)) (i : ℕ) (z : Kind Float) (d : Kind T) → i < length l → get_or (seen (λ A. List (Kind A)) l) i z ≡ seen Kind (get_or l i d)
  kinds_at = same (λ A s. (l : List (Kind A)) (i : ℕ) (z : Kind Float) (d : Kind A) → i < length l → get_or (s (λ A. List (Kind A)) l) i z ≡ s Kind (get_or l i d)) either
    where
      either : (l : List (Kind Float)) (i : ℕ) (z d : Kind Float) → i < length l → get_or l i z ≡ get_or l i d
      either [] i z d h = absurd (omega arith)
      either (x ∷ l) zero z d h = refl
      either (x ∷ l) (suc i) z d h = either l i z d (omega arith)

  -- the same at any place, where the defaults agree
  pub kinds_or : (l : List (Kind T)) (i : ℕ) (d : Kind T) → get_or (seen (λ A. List (Kind A)) l) i (seen Kind d) ≡ seen Kind (get_or l i d)
  kinds_or = same (λ A s. (l : List (Kind A)) (i : ℕ) (d : Kind A) → get_or (s (λ A. List (Kind A)) l) i (s Kind d) ≡ s Kind (get_or l i d)) (λ l i d. refl)

  pub kinds_set : (l : List (Kind T)) (i : ℕ) (k : Kind T) → seen (λ A. List (Kind A)) (set l i k) ≡ set (seen (λ A. List (Kind A)) l) i (seen Kind k)
  kinds_set = same (λ A s. (l : List (Kind A)) (i : ℕ) (k : Kind A) → s (λ A. List (Kind A)) (set l i k) ≡ set (s (λ A. List (Kind A)) l) i (s Kind k)) (λ l i k. refl)

  pub kinds_take : (l : List (Kind T)) (n : ℕ) → seen (λ A. List (Kind A)) (take n l) ≡ take n (seen (λ A. List (Kind A)) l)
  kinds_take = same (λ A s. (l : List (Kind A)) (n : ℕ) → s (λ A. List (Kind A)) (take n l) ≡ take n (s (λ A. List (Kind A)) l)) (λ l n. refl)

  pub kinds_drop : (l : List (Kind T)) (n : ℕ) → seen (λ A. List (Kind A)) (drop n l) ≡ drop n (seen (λ A. List (Kind A)) l)
  kinds_drop = same (λ A s. (l : List (Kind A)) (n : ℕ) → s (λ A. List (Kind A)) (drop n l) ≡ drop n (s (λ A. List (Kind A)) l)) (λ l n. refl)

  pub kinds_replicate : (n : ℕ) (k : Kind T) → seen (λ A. List (Kind A)) (replicate n k) ≡ replicate n (seen Kind k)
  kinds_replicate = same (λ A s. (n : ℕ) (k : Kind A) → s (λ A. List (Kind A)) (replicate n k) ≡ replicate n (s Kind k)) (λ n k. refl)
