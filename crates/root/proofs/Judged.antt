-- Which whole number is nearest to a root, told by squares alone, and by the halves of it that `is_nearest_root` multiplies. Assumes nothing.
use mathlib.Core.Path.{◌≡◌, sym, ap, ◌∙◌, subst}
use mathlib.Core.Bool.{Bool, true, false, not, cond}
use Prim.Native.Nat.{ℕ, zero, suc, ◌+◌, ◌-◌, ◌*◌, ◌/◌, ◌%◌, ◌^◌, ◌≤◌, ◌<◌}
use native.Mathlib.Nat.{mul-le-mul}
use native.Mathlib.Omega.{arith}
use lib.Dec.{T, leb, ltb, ltb→lt, nltb→le, leb→le, nleb→lt}
use borrow.Author.Tests.{lt-ltb, le-ltb}
use Rattle.root.specs.Definition.{floor_root, near_root}
use Rattle.root.proofs.Squares.{Floor, floor_is, near_at}

-- the root of n lies between q - 1 / 2 and q + 1 / 2: q * q + q is not below n, and above it by less than 2 * q (which no q is for n = 0)
abbrev pub Near : ℕ → ℕ → Type 0
Near n q = (n ≤ q * q + q) × (q * q + q < n + 2 * q)

-- ---- the nearest is such a q, but for the root of 0
told_at : (n q : ℕ) (b : Bool) → 0 < n → Floor n q → (T b → q < n - q * q) → (T (not b) → n - q * q ≤ q) → Near n (cond b (q + 1) q)
told_at n q true p h yes' no' = let t : q < n - q * q = yes' tt in (omega arith, omega arith)
told_at n zero false p h yes' no' = let t : n - 0 * 0 ≤ 0 = no' tt in absurd (omega arith)
told_at n (suc q) false p h yes' no' = let t : n - suc q * suc q ≤ suc q = no' tt in (omega arith, omega arith)

pub near_told : (w n q : ℕ) → n < 4 ^ w → 0 < n → q ≡ near_root w n → Near n q
unfolding near_root
near_told w n q h p e =
    let f = floor_root w n in
    subst (Near n) (sym e) (told_at n f (ltb f (n - f * f)) p (floor_is w n h) (ltb→lt f (n - f * f)) (nltb→le f (n - f * f)))

-- ---- and no other q is: the whole part of the root is q, or one less
only_at : (w n q : ℕ) (b : Bool) → n < 4 ^ w → Near n q → (T b → q * q ≤ n) → (T (not b) → n < q * q) → q ≡ near_root w n
only_at w n q true h k yes' no' =
    let t : q * q ≤ n = yes' tt in
    sym (near_at w n q h (t, omega arith) ∙ ap (λ (b : Bool). cond b (q + 1) q) (le-ltb q (n - q * q) (omega arith)))
only_at w n zero false h k yes' no' = let t : n < 0 * 0 = no' tt in absurd (omega arith)
only_at w n (suc q) false h k yes' no' =
    let t : n < suc q * suc q = no' tt in
    let e : q + 1 ≡ suc q = omega arith in
    sym (near_at w n q h (omega arith, omega arith) ∙ ap (λ (b : Bool). cond b (q + 1) q) (lt-ltb q (n - q * q) (omega arith)) ∙ e)

pub near_only : (w n q : ℕ) → n < 4 ^ w → Near n q → q ≡ near_root w n
near_only w n q h k = only_at w n q (leb (q * q) n) h k (leb→le (q * q) n) (nleb→lt (q * q) n)

-- ---- the halves h and l of a q up to 2 ^ 53
abbrev last : ℕ → ℕ
last l = l * (l + 1)

abbrev middle : ℕ → ℕ → ℕ
middle h l = h * (2 * l + 1) + last l / 2 ^ 26

abbrev first : ℕ → ℕ → ℕ
first h l = h * h + middle h l / 2 ^ 26

-- the products stay small, and make up q * q + q
pub record Halves (q h l : ℕ) : Type 0 where
  pub last_small : l * (l + 1) ≤ 2 ^ 52
  pub middle_small : h * (2 * l + 1) ≤ 2 ^ 54
  pub first_small : h * h ≤ 2 ^ 54
  pub whole : q * q + q ≡ first h l * 2 ^ 52 + middle h l % 2 ^ 26 * 2 ^ 26 + last l % 2 ^ 26

together : (h l : ℕ) → (h * 2 ^ 26 + l) * (h * 2 ^ 26 + l) + (h * 2 ^ 26 + l) ≡ first h l * 2 ^ 52 + middle h l % 2 ^ 26 * 2 ^ 26 + last l % 2 ^ 26
together h l = omega arith

pub halves : (q : ℕ) → q ≤ 2 ^ 53 → Halves q (q / 2 ^ 26) (q % 2 ^ 26)
halves q k =
    let h = q / 2 ^ 26 in
    let l = q % 2 ^ 26 in
    let e : h * 2 ^ 26 + l ≡ q = omega arith in
    let high : h ≤ 2 ^ 27 = omega arith in
    let low : l ≤ 2 ^ 26 = omega arith in
    let next : l + 1 ≤ 2 ^ 26 = omega arith in
    let twice : 2 * l + 1 ≤ 2 ^ 27 = omega arith in
    record {
      last_small = mul-le-mul low next;
      middle_small = mul-le-mul high twice;
      first_small = mul-le-mul high high;
      whole = subst (λ (x : ℕ). x * x + x ≡ first h l * 2 ^ 52 + middle h l % 2 ^ 26 * 2 ^ 26 + last l % 2 ^ 26) e (together h l);
    }
