-- What stands in each place of an inverse's column: document 01's equations for u and for v, each read off the finished column. Assumes nothing.
use Prim.Native.Nat.{ℕ, zero, suc, ◌+◌, ◌-◌, ◌*◌, ◌<◌, ◌≤◌}
use mathlib.Core.Path.{◌≡◌, refl, sym, ◌∙◌, ap}
use mathlib.Core.List.{List}
use mathlib.Core.Logic.{⊎_elim}
use native.Mathlib.Nat.{eq-or-lt_of_le}
use native.Mathlib.Omega.{arith}
use lib.ListN.{length, get_or, length-set}
use lib.Seq.{get_or-set_same, get_or-set_other}
use lib.Ieee.{Float, Format, nan, sub, mul, div}
use Rattle.floats.specs.Numbers.{zeros}
use Rattle.matrix.specs.Folds.{total_of, built_of}
use Rattle.matrix.specs.Inverse.{unit_at, forward_at, forward_of, backward_at, backward_of, inverse_of}
use Rattle.matrix.proofs.Cells.{inverse_filled, length_zeros, total_same}

-- ---- a list built in an order that comes to no place twice

module _ (at : ℕ → ℕ) (e : List Float → ℕ → Float) (t : List Float) where
  pub length_built : (m : ℕ) → length (built_of at e m t) ≡ length t
  unfolding built_of
  length_built zero = refl
  length_built (suc m) = simp length-set (length_built m)

  -- a place that is not come to keeps what it had
  pub built_other : (m p : ℕ) → ((k : ℕ) → k < m → at k ≡ p → ⊥) → get_or (built_of at e m t) p nan ≡ get_or t p nan
  unfolding built_of
  built_other zero p h = refl
  built_other (suc m) p h = get_or-set_other (built_of at e m t) (at m) p _ nan (λ q. h m (omega arith) (sym q)) ∙ built_other m p (λ k g. h k (omega arith))

  -- the place of turn k holds what that turn worked out
  pub built_at : (m k : ℕ) → k < m → ((h : ℕ) → k < h → h < m → at h ≡ at k → ⊥) → at k < length t → get_or (built_of at e m t) (at k) nan ≡ e (built_of at e k t) (at k)
  unfolding built_of
  built_at zero k h d l = absurd (omega arith)
  built_at (suc m) k h d l =
      ⊎_elim
      (λ q. let s : k ≡ m = omega arith in rw s (get_or-set_same (built_of at e m t) (at m) _ nan (rw (length_built m, ← s) l)))
      (λ q. get_or-set_other (built_of at e m t) (at m) (at k) _ nan (λ z. d m (omega arith) (omega arith) (sym z)) ∙ built_at m k (omega arith) (λ g a b. d g a (omega arith)) l)
      (eq-or-lt_of_le h)

-- ---- the two passes

module _ (f : Format) (l : List Float) (m : ℕ) (small : m ≤ 8) where
  -- u[i] = (1 if i = c, else 0, minus L[i][k]·u[k] for k below i in turn)/L[i][i]
  pub forward_at_lem : (c i : ℕ) → i < m → get_or (forward_of f l m c) i nan ≡ forward_at f l m c (forward_of f l m c) i
  forward_at_lem c i h =
      whole m i (omega arith) h
      ∙ ap (λ (t : Float). div f t (get_or l (i * m + i) nan))
      (total_same (sub f) (unit_at f c i) _ _ i (λ k g. ap (mul f (get_or l (i * m + k) nan)) (whole i k (omega arith) g ∙ sym (whole m k (omega arith) (omega arith)))))
    where
      whole : (n k : ℕ) → n ≤ m → k < n → get_or (built_of (λ (j : ℕ). j) (forward_at f l m c) n (zeros 8)) k nan ≡ forward_at f l m c (built_of (λ (j : ℕ). j) (forward_at f l m c) k (zeros 8)) k
      whole n k g q = built_at (λ (j : ℕ). j) (forward_at f l m c) (zeros 8) n k q (λ j a b z. omega arith) (omega (arith, length_zeros 8))

  -- v[i] = (u[i] minus L[k][i]·v[k] for k = i+1 upward)/L[i][i]
  abbrev pub back_of : List Float → List Float → ℕ → Float
  back_of u v i = div f (total_of (sub f) (get_or u i nan) (λ (k : ℕ). mul f (get_or l ((i + 1 + k) * m + i) nan) (get_or v (i + 1 + k) nan)) (m - (i + 1))) (get_or l (i * m + i) nan)

  module _ (u : List Float) (long : length u ≡ 8) where
    abbrev turns : ℕ → List Float
    turns n = built_of (λ (k : ℕ). m - (k + 1)) (backward_at f l m) n u

    -- place p is come to at turn m - (p + 1)
    turned : (n p : ℕ) → n ≤ m → m - (p + 1) < n → p < m → get_or (turns n) p nan ≡ backward_at f l m (turns (m - (p + 1))) p
    turned n p g q w =
        let s : m - (m - (p + 1) + 1) ≡ p = omega arith in
        rw s at (built_at (λ (k : ℕ). m - (k + 1)) (backward_at f l m) u n (m - (p + 1)) q (λ j a b z. omega arith) (omega arith))

    pub backward_at_lem : (i : ℕ) → i < m → get_or (backward_of f l m u) i nan ≡ back_of u (backward_of f l m u) i
    backward_at_lem i h =
        turned m i (omega arith) (omega arith) h
        ∙ ap (λ (t : Float). div f t (get_or l (i * m + i) nan))
        (ap (λ (z : Float). total_of (sub f) z (λ (k : ℕ). mul f (get_or l ((i + 1 + k) * m + i) nan) (get_or (turns (m - (i + 1))) (i + 1 + k) nan)) (m - (i + 1)))
        (built_other (λ (k : ℕ). m - (k + 1)) (backward_at f l m) u (m - (i + 1)) i (λ k g z. omega arith))
        ∙ total_same (sub f) (get_or u i nan) _ _ (m - (i + 1))
        (λ k g. ap (mul f (get_or l ((i + 1 + k) * m + i) nan)) (turned (m - (i + 1)) (i + 1 + k) (omega arith) (omega arith) (omega arith) ∙ sym (turned m (i + 1 + k) (omega arith) (omega arith) (omega arith)))))

  -- V[i][c] of the inverse, by the two passes
  pub inverse_at : (i c : ℕ) → i < m → c < m → get_or (inverse_of f l m) (i * m + c) nan ≡ back_of (forward_of f l m c) (backward_of f l m (forward_of f l m c)) i
  inverse_at i c h g = (inverse_filled f l m small).cell i c h g ∙ backward_at_lem (forward_of f l m c) (length_built _ _ _ m ∙ length_zeros 8) i h
