-- The factor's work, turn by turn, for any format: what is left at the head of each loop comes to the whole outcome, and each law takes that from one place of the code
-- to the next, in the code's own terms. Assumes nothing.
use Prim.Native.Nat.{ℕ, suc, ◌+◌, ◌-◌, ◌*◌, ◌<◌, ◌≤◌}
use mathlib.Core.Path.{◌≡◌, refl, sym}
use mathlib.Core.Bool.{Bool, true, false, ◌&&◌}
use mathlib.Core.List.{List, [], ◌∷◌}
use native.Mathlib.Nat.{sub-zero}
use native.Mathlib.Omega.{arith}
use lib.ListN.{get_or, set}
use lib.Ieee.{Float, Format, nan, div}
use lib.Ieee.Scale.{finite}
use Rattle.floats.specs.declared.Refusal.{Refusal}
use Rattle.floats.specs.declared.Refusal.TheVariants.{Range as RANGE}
use Rattle.floats.specs.Refusal.{refused, accepted}
use Rattle.floats.specs.Numbers.{zeros, all_finite, above_zero}
use Rattle.root.specs.Definition.{root_of}
use Rattle.matrix.specs.Sums.{less_of}
use Rattle.matrix.specs.Results.{worked, then}
use Rattle.matrix.specs.Factor.{left_of, rows_from, column_of, columns_from, factor_of}

-- the columns from j on, over the entries l, come to the whole outcome
pub record ColumnsAt (f : Format) (r : ℕ → Refusal) (a : List Float) (n j : ℕ) (l : List Float) : Type 0 where
  pub comes : worked (columns_from f r a n (n - j) j l) ≡ worked (factor_of f r a n)

-- so do the rows of column j from i on, under the diagonal entry d, and the columns after it
pub record RowsAt (f : Format) (r : ℕ → Refusal) (a : List Float) (n j : ℕ) (d : Float) (i : ℕ) (l : List Float) : Type 0 where
  pub comes : worked (then (rows_from f r a n j d (n - i) i l) (λ (k : List Float). columns_from f r a n (n - (j + 1)) (j + 1) k)) ≡ worked (factor_of f r a n)

-- one more turn is left than after it
one_more : (i n : ℕ) → i < n → n - i ≡ suc (n - (i + 1))
one_more i n h = omega arith

none_left : (i n : ℕ) → n ≤ i → n - i ≡ 0
none_left i n h = omega arith

-- the entries as they are made, one number each
pub all_one : (x : Float) → all_finite (x ∷ []) ≡ finite x
unfolding all_finite
all_one x = go (finite x)
  where
    go : (b : Bool) → (b && true) ≡ b
    go true = refl
    go false = refl

pub columns_begin : {f : Format} {r : ℕ → Refusal} {a : List Float} {n : ℕ} {l : List Float} → l ≡ zeros 64 → ColumnsAt f r a n 0 l
columns_begin e = record { comes = rw (sub-zero, e) }

module _ {f : Format} {r : ℕ → Refusal} {a : List Float} {n j : ℕ} {l : List Float} (at : ColumnsAt f r a n j l) where
  pub columns_end : n ≤ j → worked (factor_of f r a n) ≡ accepted l
  unfolding columns_from worked
  columns_end h = sym (rw (none_left j n h) at at.comes)

  -- s is where row j starts, x is A's entry there, and p the pivot
  module _ {s : ℕ} {x p : Float} (h : j < n) (row : s ≡ j * n) (entry : x ≡ get_or a (s + j) nan) (is : p ≡ less_of f x l s s j) where
    pivot : p ≡ left_of f a n j j l
    pivot = rw (entry, row) at is

    pub column_goes : {d : Float} {u : List Float} → above_zero p ≡ true → d ≡ root_of f p → u ≡ set l (s + j) d → RowsAt f r a n j d (j + 1) u
    unfolding columns_from column_of worked
    column_goes t e g =
        let good : above_zero (left_of f a n j j l) ≡ true = rw pivot at t in record { comes = rw (g, row, e, pivot) (rw (one_more j n h, good) at at.comes) }

    pub column_stops : above_zero p ≡ false → worked (factor_of f r a n) ≡ refused (r j)
    unfolding columns_from column_of worked
    column_stops t = sym (rw (one_more j n h, ← pivot, t) at at.comes)

module _ {f : Format} {r : ℕ → Refusal} {a : List Float} {n j : ℕ} {d : Float} {i : ℕ} {l : List Float} (at : RowsAt f r a n j d i l) where
  pub rows_end : n ≤ i → ColumnsAt f r a n (j + 1) l
  unfolding rows_from
  rows_end h = record { comes = rw (none_left i n h) at at.comes }

  -- q and s are where rows i and j start, x is A's entry, p what is left of it, and e that over d
  module _ {q s : ℕ} {x p e : Float} (h : i < n) (row_i : q ≡ i * n) (row_j : s ≡ j * n) (entry : x ≡ get_or a (q + j) nan) (is : p ≡ less_of f x l q s j) (over : e ≡ div f p d) where
    entry_is : e ≡ div f (left_of f a n i j l) d
    entry_is = rw (is, entry, row_i, row_j) at over

    pub row_goes : {u : List Float} → finite e ≡ true → u ≡ set l (q + j) e → RowsAt f r a n j d (i + 1) u
    unfolding rows_from worked
    row_goes t g = record { comes = rw (g, row_i) (rw (one_more i n h, ← entry_is, all_one e, t) at at.comes) }

    pub row_stops : finite e ≡ false → worked (factor_of f r a n) ≡ refused RANGE
    unfolding rows_from worked
    row_stops t = sym (rw (one_more i n h, ← entry_is, all_one e, t) at at.comes)
