-- Where the rows and cells of a matrix laid flat stand. Assumes nothing.
use Prim.Native.Nat.{ℕ, zero, suc, ◌+◌, ◌*◌, ◌<◌, ◌≤◌}
use mathlib.Core.Path.{◌≡◌, ap}
use mathlib.Core.Logic.{◌⊎◌, inl, inr, ⊎_elim}
use native.Mathlib.Nat.{mul-le-mul, mul-le-mul_right, suc-mul}
use native.Mathlib.Omega.{arith}

-- one of a rows, each of b numbers at the most, lies within a * b places
pub row_in : (a b i n : ℕ) → i < a → n ≤ b → i * n + n ≤ a * b
row_in a b i n h m = omega (arith, mul-le-mul h m, suc-mul i n)

pub cell_in : (i j n : ℕ) → i < n → j < n → n ≤ 8 → i * n + j < 64
cell_in i j n h k m = omega (arith, row_in 8 8 i n (omega arith) m)

-- a row ends where a later row begins, or before
pub row_before : (i k n : ℕ) → i < k → i * n + n ≤ k * n
row_before i k n h = omega (arith, mul-le-mul_right n h, suc-mul i n)

-- i is below k, or not
pub split : (i k : ℕ) → (i < k) ⊎ (k ≤ i)
split i zero = inr (omega arith)
split zero (suc k) = inl (omega arith)
split (suc i) (suc k) = ⊎_elim (λ h. inl (omega arith)) (λ h. inr (omega arith)) (split i k)

-- two cells that stand in one place are one cell
pub same_row : (i j r k n : ℕ) → j < n → k < n → r * n + k ≡ i * n + j → r ≡ i
same_row i j r k n h g e =
    ⊎_elim (λ q. absurd (omega (arith, row_before r i n q)))
    (λ q. ⊎_elim (λ p. absurd (omega (arith, row_before i r n p))) (λ p. omega arith) (split i r))
    (split r i)

pub same_column : (i j r k n : ℕ) → j < n → k < n → r * n + k ≡ i * n + j → k ≡ j
same_column i j r k n h g e = let q : r * n ≡ i * n = ap (λ (x : ℕ). x * n) (same_row i j r k n h g e) in omega arith
