-- Sizes up to 8 and the numbers that they need: what the tests of a size say, and bounds. Assumes nothing.
use Prim.Native.Nat.{ℕ, ◌≤◌, ◌<◌, ◌+◌, ◌*◌, ◌-◌, zero-le}
use native.Mathlib.Nat.{mul-le-mul_left, mul-le-mul_right}
use native.Mathlib.Omega.{arith}
use mathlib.Core.Path.{◌≡◌, refl, sym, ◌∙◌}
use mathlib.Core.Bool.{Bool, true, false, ◌&&◌, cond}
use lib.Dec.{leb, ltb}
use borrow.Author.Tests.{ltb-true, ltb-false, leb-true, le-leb, lt-leb}
pub use Rattle.floats.proofs.Tests.{and_left, and_right, and_true, every_append}
use Rattle.filter.specs.Asked.{in_range}
use Rattle.filter.specs.Calls.{observed_numbers}

-- ---- a size in its range

module _ (a b n : ℕ) (h : in_range a b n ≡ true) where
  pub range_ge : a ≤ n
  unfolding in_range
  range_ge = leb-true a n (and_left (leb a n) (leb n b) h)

  pub range_le : n ≤ b
  unfolding in_range
  range_le = leb-true n b (and_right (leb a n) (leb n b) h)

-- a state index: below n is up to n - 1
below : (i n : ℕ) → 1 ≤ n → ltb i n ≡ in_range 0 (n - 1) i
unfolding in_range
below i n h = go (ltb i n) (ltb-true i n) (ltb-false i n) refl
  where
    go : (t : Bool) → (ltb i n ≡ true → i < n) → (ltb i n ≡ false → n ≤ i) → ltb i n ≡ t → ltb i n ≡ (leb 0 i && leb i (n - 1))
    go true a b e = let j = a e in rw (e, le-leb 0 i zero-le, le-leb i (n - 1) (omega arith))
    go false a b e = let j = b e in rw (e, le-leb 0 i zero-le, lt-leb i (n - 1) (omega arith))

-- a test beside that of n need only be right where n is 1 to 8
pub where_sized : (n : ℕ) (a b : Bool) → (1 ≤ n → n ≤ 8 → a ≡ b) → (in_range 1 8 n && a) ≡ (in_range 1 8 n && b)
where_sized n a b h = go (in_range 1 8 n) (λ e. h (range_ge 1 8 n e) (range_le 1 8 n e))
  where
    go : (t : Bool) → (t ≡ true → a ≡ b) → (t && a) ≡ (t && b)
    go false k = refl
    go true k = k refl

pub state_in : (i n : ℕ) → (in_range 1 8 n && ltb i n) ≡ (in_range 1 8 n && (in_range 0 (n - 1) i && true))
state_in i n = where_sized n _ _ (λ g h. below i n g ∙ sym (and_true _))

-- a point's index: up to n + n
pub point_in : (k n : ℕ) → (in_range 1 8 n && leb k (cond (leb n 8) (n + n) 0)) ≡ (in_range 1 8 n && (in_range 0 (n + n) k && true))
unfolding in_range
point_in k n = where_sized n _ _ (λ g h. rw (le-leb n 8 h, le-leb 0 k zero-le) (sym (and_true _)))

-- ---- the numbers needed, at sizes up to 8

pub product_le : (a b c d : ℕ) → a ≤ c → b ≤ d → a * b ≤ c * d
product_le a b c d h k =
    let x : a * b ≤ c * b = mul-le-mul_right b h in
    let y : c * b ≤ c * d = mul-le-mul_left c k in
    omega arith

pub square_le : (n : ℕ) → n ≤ 8 → n * n ≤ 64
square_le n h = product_le n n 8 8 h h

pub numbers_le : (n d : ℕ) → n ≤ 8 → d ≤ 8 → observed_numbers n d ≤ 136
numbers_le n d h k = product_le (n + n + 1) d 17 8 (omega arith) k

-- what the capped counts come to there
pub within_8 : (n k : ℕ) → n ≤ 8 → cond (leb n 8) k 0 ≡ k
within_8 n k h = rw (le-leb n 8 h)

pub within_both : (n d k : ℕ) → n ≤ 8 → d ≤ 8 → cond (leb n 8 && leb d 8) k 0 ≡ k
within_both n d k h j = rw (le-leb n 8 h, le-leb d 8 j)

-- and what 6 comes to there
pub passing_8 : (n : ℕ) (w : Bool) → n ≤ 8 → (leb n 8 && w) ≡ (w && true)
passing_8 n w h = rw (le-leb n 8 h) (sym (and_true w))
