-- What stands in each place of an array filled place by place, and of a matrix filled row by row: of a sum, a product and an inverse. Assumes nothing.
use Prim.Native.Nat.{ℕ, zero, suc, ◌+◌, ◌*◌, ◌<◌, ◌≤◌}
use mathlib.Core.Path.{◌≡◌, refl, ◌∙◌}
use mathlib.Core.List.{List}
use mathlib.Core.Logic.{⊎_elim}
use native.Mathlib.Nat.{eq-or-lt_of_le, suc-mul, mul-le-mul}
use native.Mathlib.Omega.{arith}
use lib.ListN.{length, get_or, length-set, length-replicate, get_or-replicate}
use lib.Seq.{get_or-set_same, get_or-set_other}
use lib.Ieee.{Float, Format, nan}
use Rattle.floats.specs.Numbers.{plus_zero, zeros}
use Rattle.matrix.specs.Folds.{total_of, places_of, row_of, rows_of}
use Rattle.matrix.specs.Sums.{plus_at, plus_of, minus_at, minus_of}
use Rattle.matrix.specs.Inverse.{column_at, inverse_of}
use Rattle.matrix.specs.Product.{transb_at, transb_of}
use Rattle.matrix.proofs.Flat.{row_before}

pub length_zeros : (w : ℕ) → length (zeros w) ≡ w
unfolding zeros
length_zeros w = length-replicate w plus_zero

pub zeros_at : (w p : ℕ) → p < w → get_or (zeros w) p nan ≡ plus_zero
unfolding zeros
zeros_at w p h = get_or-replicate w p plus_zero nan h

-- ---- running sums

-- a sum reads its k terms, and nothing else
pub total_same : (op : Float → Float → Float) (z : Float) (e h : ℕ → Float) (k : ℕ) → ((m : ℕ) → m < k → e m ≡ h m) → total_of op z e k ≡ total_of op z h k
unfolding total_of
total_same op z e h zero q = refl
total_same op z e h (suc k) q = rw (q k (omega arith), total_same op z e h k (λ m g. q m (omega arith)))

-- ---- place by place

module _ (e : ℕ → Float) where
  pub length_places : (m : ℕ) (t : List Float) → length (places_of e m t) ≡ length t
  unfolding places_of
  length_places zero t = refl
  length_places (suc m) t = simp length-set (length_places m t)

  pub places_high : (m : ℕ) (t : List Float) (p : ℕ) → m ≤ p → get_or (places_of e m t) p nan ≡ get_or t p nan
  unfolding places_of
  places_high zero t p h = refl
  places_high (suc m) t p h = get_or-set_other (places_of e m t) m p (e m) nan (λ q. omega arith) ∙ places_high m t p (omega arith)

  pub places_at : (m : ℕ) (t : List Float) (i : ℕ) → i < m → m ≤ length t → get_or (places_of e m t) i nan ≡ e i
  unfolding places_of
  places_at zero t i h l = absurd (omega arith)
  places_at (suc m) t i h l =
      ⊎_elim
      (λ q. let s : i ≡ m = omega arith in rw s (get_or-set_same (places_of e m t) m (e m) nan (omega (arith, length_places m t))))
      (λ q. get_or-set_other (places_of e m t) m i (e m) nan (λ r. omega arith) ∙ places_at m t i (omega arith) (omega arith))
      (eq-or-lt_of_le h)

-- of the w places of t the first k hold e, and the others +0
pub record Placed (e : ℕ → Float) (k w : ℕ) (t : List Float) : Type 0 where
  pub long : length t ≡ w
  pub place : (i : ℕ) → i < k → get_or t i nan ≡ e i
  pub rest : (i : ℕ) → k ≤ i → i < w → get_or t i nan ≡ plus_zero

pub placed : (e : ℕ → Float) (k w : ℕ) → k ≤ w → Placed e k w (places_of e k (zeros w))
placed e k w h = record {
  long = length_places e k (zeros w) ∙ length_zeros w;
  place = λ i g. places_at e k (zeros w) i g (omega (arith, length_zeros w));
  rest = λ i g l. places_high e k (zeros w) i g ∙ zeros_at w i l;
}

-- ---- row by row

module _ (e : ℕ → ℕ → Float) (n : ℕ) where
  pub length_row : (i m : ℕ) (t : List Float) → length (row_of e n i m t) ≡ length t
  unfolding row_of
  length_row i zero t = refl
  length_row i (suc m) t = simp length-set (length_row i m t)

  pub length_rows : (m : ℕ) (t : List Float) → length (rows_of e n m t) ≡ length t
  unfolding rows_of
  length_rows zero t = refl
  length_rows (suc m) t = length_row m n (rows_of e n m t) ∙ length_rows m t

  -- before the row, and from the cells that are set on, nothing changes
  pub row_low : (i m : ℕ) (t : List Float) (p : ℕ) → p < i * n → get_or (row_of e n i m t) p nan ≡ get_or t p nan
  unfolding row_of
  row_low i zero t p h = refl
  row_low i (suc m) t p h = get_or-set_other (row_of e n i m t) (i * n + m) p (e i m) nan (λ q. omega arith) ∙ row_low i m t p h

  pub row_high : (i m : ℕ) (t : List Float) (p : ℕ) → i * n + m ≤ p → get_or (row_of e n i m t) p nan ≡ get_or t p nan
  unfolding row_of
  row_high i zero t p h = refl
  row_high i (suc m) t p h = get_or-set_other (row_of e n i m t) (i * n + m) p (e i m) nan (λ q. omega arith) ∙ row_high i m t p (omega arith)

  pub row_at : (i m : ℕ) (t : List Float) (j : ℕ) → j < m → i * n + m ≤ length t → get_or (row_of e n i m t) (i * n + j) nan ≡ e i j
  unfolding row_of
  row_at i zero t j h l = absurd (omega arith)
  row_at i (suc m) t j h l =
      ⊎_elim
      (λ q. let s : j ≡ m = omega arith in rw s (get_or-set_same (row_of e n i m t) (i * n + m) (e i m) nan (omega (arith, length_row i m t))))
      (λ q. get_or-set_other (row_of e n i m t) (i * n + m) (i * n + j) (e i m) nan (λ r. omega arith) ∙ row_at i m t j (omega arith) (omega arith))
      (eq-or-lt_of_le h)

  pub rows_high : (m : ℕ) (t : List Float) (p : ℕ) → m * n ≤ p → get_or (rows_of e n m t) p nan ≡ get_or t p nan
  unfolding rows_of
  rows_high zero t p h = refl
  rows_high (suc m) t p h = row_high m n (rows_of e n m t) p (omega (arith, suc-mul m n)) ∙ rows_high m t p (omega (arith, suc-mul m n))

  pub rows_at : (m : ℕ) (t : List Float) (i j : ℕ) → i < m → j < n → m * n ≤ length t → get_or (rows_of e n m t) (i * n + j) nan ≡ e i j
  unfolding rows_of
  rows_at zero t i j h k l = absurd (omega arith)
  rows_at (suc m) t i j h k l =
      ⊎_elim
      (λ q. let s : i ≡ m = omega arith in rw s (row_at m n (rows_of e n m t) j k (omega (arith, suc-mul m n, length_rows m t))))
      (λ q. row_low m n (rows_of e n m t) (i * n + j) (omega (arith, row_before i m n (omega arith))) ∙ rows_at m t i j (omega arith) k (omega (arith, suc-mul m n)))
      (eq-or-lt_of_le h)

-- of the w places of t the first m * n are m rows of n that hold e, and the others +0
pub record Filled (e : ℕ → ℕ → Float) (m n w : ℕ) (t : List Float) : Type 0 where
  pub long : length t ≡ w
  pub cell : (i j : ℕ) → i < m → j < n → get_or t (i * n + j) nan ≡ e i j
  pub rest : (p : ℕ) → m * n ≤ p → p < w → get_or t p nan ≡ plus_zero

pub filled : (e : ℕ → ℕ → Float) (m n w : ℕ) → m * n ≤ w → Filled e m n w (rows_of e n m (zeros w))
filled e m n w h = record {
  long = length_rows e n m (zeros w) ∙ length_zeros w;
  cell = λ i j g k. rows_at e n m (zeros w) i j g k (omega (arith, length_zeros w));
  rest = λ p g l. rows_high e n m (zeros w) p g ∙ zeros_at w p l;
}

-- a matrix of 8 rows and columns at the most has room in 64 places
pub matrix_filled : (e : ℕ → ℕ → Float) (m n : ℕ) → m ≤ 8 → n ≤ 8 → Filled e m n 64 (rows_of e n m (zeros 64))
matrix_filled e m n h g = filled e m n 64 (mul-le-mul h g)

-- ---- the leaves

module _ (f : Format) where
  pub plus_placed : (k : ℕ) (a b : List Float) → k ≤ 64 → Placed (plus_at f a b) k 64 (plus_of f k a b)
  plus_placed k a b = placed (plus_at f a b) k 64

  pub minus_placed : (k : ℕ) (a b : List Float) → k ≤ 64 → Placed (minus_at f a b) k 64 (minus_of f k a b)
  minus_placed k a b = placed (minus_at f a b) k 64

  pub transb_filled : (a b : List Float) (d n m : ℕ) → n ≤ 8 → m ≤ 8 → Filled (transb_at f a b d) n m 64 (transb_of f a b d n m)
  transb_filled a b d = matrix_filled (transb_at f a b d)

  -- V[i][c] is number i of column c
  pub inverse_filled : (l : List Float) (m : ℕ) → m ≤ 8 → Filled (λ (i c : ℕ). column_at f l m c i) m m 64 (inverse_of f l m)
  inverse_filled l m h = matrix_filled (λ (i c : ℕ). column_at f l m c i) m m h h
