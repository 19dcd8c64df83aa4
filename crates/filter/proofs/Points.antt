-- The tests of `point_refusal`, and what their number says of the part that `point` hands back; and the part of a list that has its places. Assumes nothing.
use Prim.Native.Nat.{ℕ, ◌≤◌, ◌+◌, ◌*◌, ◌-◌}
use mathlib.Core.Path.{◌≡◌, refl, sym, ap, ◌∙◌}
use mathlib.Core.Bool.{Bool, true, false, ◌&&◌, cond}
use mathlib.Core.List.{List, []}
use native.Mathlib.Nat.{mul-le-mul_right, add-sub_cancel_left}
use native.Mathlib.Omega.{arith}
use borrow.Author.Tests.{eq-eqb, ne_eqb, le-leb}
use lib.Dec.{leb}
use lib.ListN.{length, take, drop}
use lib.Ieee.{Float, Format}
use Rattle.floats.specs.declared.Verdict.{Verdict}
use Rattle.floats.specs.Refusal.{accepted, refusal, or, nothing}
use Rattle.floats.specs.Numbers.{bytes}
use Rattle.floats.proofs.Refusals.{number_of}
use Rattle.filter.specs.Asked.{in_range, in_order, first_refusal}
use Rattle.filter.specs.Calls.{sized, observed_numbers}
use Rattle.filter.specs.Point.{part_of, part_start, point_asks, point_refusal, point_of, point_start}
use Rattle.filter.proofs.Sizes.{and_left, and_right, and_true, range_le, point_in, within_both}
use Rattle.filter.proofs.Order.{none as empty, tested_early, passed, goes_on, refuses, number_given}
use Rattle.filter.proofs.Lines.{states_le, long_le}

module _ (f : Format) (l : List Float) (n k : ℕ) where
  pub first : first_refusal f (point_asks f l n k) ≡ point_refusal f l n k
  unfolding point_refusal
  first = sym (number_given f (point_asks f l n k) (take n (drop (k * n) l)))

  -- as the code tests it
  pub tests : {numbers : ℕ} {sized' long' : Bool} {r : Verdict} → sized' ≡ (in_range 1 8 n && leb k (cond (leb n 8) (n + n) 0)) → numbers ≡ cond (leb n 8 && leb n 8) (observed_numbers n n) 0 → long' ≡ leb numbers (length l) → r ≡ refusal (in_order true sized' long' true false false nothing true true nothing) → r ≡ point_refusal f l n k
  tests e₁ e₂ e₃ d =
      tested_early f (point_asks f l n k) nothing d refl (e₁ ∙ point_in k n)
      (λ h. e₃ ∙ ap (λ (j : ℕ). leb j (length l)) (e₂ ∙ within_both n n _ (states_le n (sized k 0 (n + n)) h) (states_le n (sized k 0 (n + n)) h)) ∙ sym (and_true _))
      refl refl refl (λ h. empty) refl (λ h. refl)
      ∙ first

  pub none : ((point_refusal f l n k).number ≡ 0 → ⊥) → point_of f l n k ≡ []
  unfolding point_of
  none h = ap (or []) (refuses f (point_asks f l n k) (accepted (take n (drop (k * n) l))) (λ z. h (sym (number_of first) ∙ z))).1

  module _ (z : (point_refusal f l n k).number ≡ 0) where
    -- the part lies within the list
    pub within : k * n + n ≤ length l
    within =
        let p = passed f (point_asks f l n k) (number_of first ∙ z) in
        let i = range_le 0 (n + n) k (and_left (in_range 0 (n + n) k) true (and_right (in_range 1 8 n) _ p.sized)) in
        let a : k * n ≤ (n + n) * n = mul-le-mul_right n i in
        omega (arith, long_le f p)

    pub part : take (k * n + n - k * n) (drop (k * n) l) ≡ point_of f l n k
    unfolding point_of
    part = ap (λ (m : ℕ). take m (drop (k * n) l)) (add-sub_cancel_left (k * n) n) ∙ sym (ap (or []) (goes_on f (point_asks f l n k) (accepted (take n (drop (k * n) l))) (number_of first ∙ z)))

-- ---- where it lies, at a number's bytes each

module _ (f : Format) (l : List Float) (n k : ℕ) (at : ℕ × ℕ) where
  pub start_none : ((point_refusal f l n k).number ≡ 0 → ⊥) → (at.0, 0 * bytes f + at.1) ≡ point_start f l n k at
  unfolding point_start
  start_none h = simp (ne_eqb _ _ h)

  pub start_part : (point_refusal f l n k).number ≡ 0 → (at.0, k * n * bytes f + at.1) ≡ point_start f l n k at
  unfolding point_start
  start_part z = simp (eq-eqb _ _ z)

-- of places that a list has, the part, and where it begins
module _ {A : Type 0} (l : List A) (a e : ℕ) (h : a ≤ e) (i : e ≤ length l) where
  pub given : part_of l a e ≡ take (e - a) (drop a l)
  given = rw (le-leb a e h, le-leb e (length l) i)

  pub begun : (f : Format) (at : ℕ × ℕ) → part_start l a e f at ≡ (at.0, a * bytes f + at.1)
  begun f at = rw (le-leb a e h, le-leb e (length l) i)

-- the floats of a part are that part of the floats
pub floats_part : {A : Type 0} {floats : List A → List Float} {seen : (F : Type 0 → Type 0) → F A → F Float} (law : (l : List A) → floats l ≡ seen List l) (same : (P : (B : Type 0) → ((F : Type 0 → Type 0) → F B → F Float) → Type 0) → P Float (λ F x. x) → P A seen) (m i : ℕ) (l : List A) → floats (take m (drop i l)) ≡ take m (drop i (floats l))
floats_part law same m i l = rw (law l) (law (take m (drop i l)) ∙ same (λ B s. (u : List B) → s List (take m (drop i u)) ≡ take m (drop i (s List u))) (λ u. refl) l)

-- a test, and another where it holds
pub both_so : {i b t : Bool} → i ≡ true → t ≡ b → t ≡ (i && b)
both_so e h = rw e h

pub both_not : {i t : Bool} (b : Bool) → i ≡ false → t ≡ i → t ≡ (i && b)
both_not b e h = rw e (h ∙ e)
