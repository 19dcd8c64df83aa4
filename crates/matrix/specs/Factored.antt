-- What the entries of a factor satisfy, each by those before it, and what it is that a pivot is bad. Definitions only.
use Prim.{Unit}
use Rattle.std.specs.Prelude.{ℕ, ◌+◌, ◌*◌, ◌<◌, ◌≤◌, ◌≡◌, true, false, List, length, get_or, Float}
use Rattle.std.specs.Float.{Format, nan}
use Rattle.std.specs.Float.Ieee.{div}
use Rattle.std.specs.Float.Ieee.Scale.{finite}
use Rattle.floats.specs.Numbers.{plus_zero, above_zero}
use Rattle.root.specs.Definition.{root_of}
use Rattle.matrix.specs.Factor.{left_of}

module _ (f : Format) (a : List Float) (n : ℕ) where
  -- the diagonal entry of column j is right, by the entries before it
  pub record Diag (l : List Float) (j : ℕ) : Type 0 where
    pub above : above_zero (left_of f a n j j l) ≡ true
    pub root : get_or l (j * n + j) nan ≡ root_of f (left_of f a n j j l)

  -- the entry of row i and column j, under the diagonal
  pub record Low (l : List Float) (i j : ℕ) : Type 0 where
    pub quotient : get_or l (i * n + j) nan ≡ div f (left_of f a n i j l) (get_or l (j * n + j) nan)
    pub bounded : finite (get_or l (i * n + j) nan) ≡ true

  -- those entries on and under the diagonal that are made are right; above the diagonal and past n·n stands +0
  pub record Part (Made : ℕ → ℕ → Type 0) (l : List Float) : Type 0 where
    pub long : length l ≡ 64
    pub diagonal : (j : ℕ) → j < n → Made j j → Diag l j
    pub lower : (i j : ℕ) → j < i → i < n → Made i j → Low l i j
    pub upper : (i j : ℕ) → i < j → j < n → get_or l (i * n + j) nan ≡ plus_zero
    pub rest : (p : ℕ) → n * n ≤ p → p < 64 → get_or l p nan ≡ plus_zero

  -- l is a factor of A: all are made
  abbrev pub Lower : List Float → Type 0
  Lower l = Part (λ (i j : ℕ). Unit {0}) l

  -- the first j columns are right, so their pivots are good and their entries finite (else it would be 9), and the pivot of row j, worked out from them, isn't finite or isn't above 0
  pub record BadPivot (j : ℕ) : Type 0 where
    pub entries : List Float
    pub inside : j < n
    pub right : Part (λ (i k : ℕ). k < j) entries
    pub bad : above_zero (left_of f a n j j entries) ≡ false
