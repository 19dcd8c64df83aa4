-- NaNs and their bits, and the bits of a binary32 in a wider number. Assumes nothing.
use mathlib.Core.Path.{◌≡◌, refl, sym, ap, ◌∙◌, subst}
use mathlib.Core.Bool.{Bool, true, false, not, true≢false}
use Prim.Native.Nat.{ℕ, ◌+◌, ◌*◌, ◌/◌, ◌%◌, ◌^◌, ◌≤◌, ◌<◌, min}
use native.Mathlib.Omega.{arith}
use borrow.Author.Tests.{lt-ltb, le-ltb}
use lib.Dec.{T, leb}
use lib.Ieee.{Float, nan, inf, fin, Format, binary32, binary64, is_nan, eq, ne, div, of_bits, to_bits, nan_bits, fits, hid, ones, top}
use lib.Ieee.Bits.{to_bits-lt, nan_bits_is, nan_bits_above}
use lib.Ieee.Compare.{differs_from_itself}
use Rattle.std.proofs.lemmas.Bool.Decides.{nat_tests}
use Rattle.floats.specs.Numbers.{plus_zero}
use Rattle.words.specs.Words.{width}

-- ---- what differs from itself

pub no_nan : (x : Float) → not (eq x x) ≡ false → T (not (is_nan x))
unfolding is_nan eq
no_nan nan h = absurd (true≢false h)
no_nan (inf s) h = tt
no_nan (fin s m e) h = tt

-- the bits that it is written with
pub nan_written : (f : Format) (x : Float) → not (eq x x) ≡ true → ones f * hid f + hid f / 2 ≡ to_bits f x
unfolding ne to_bits
nan_written f x h = ap (to_bits f) (sym (differs_from_itself x (subst T (sym h) tt)))

-- ---- how many digits the bits take

pub short : (f : Format) (x : Float) → fits f x ≡ true → to_bits f x < 16 ^ width f
short binary32 x h = to_bits-lt binary32 x (subst T (sym h) tt)
short binary64 x h = to_bits-lt binary64 x (subst T (sym h) tt)

-- ---- the bits of a NaN, by the one test: i stands for those of the infinity, and t for the sign's

only_nan : (x : Float) → is_nan x ≡ true → x ≡ nan
unfolding is_nan
only_nan nan h = refl
only_nan (inf s) h = absurd (true≢false (sym h))
only_nan (fin s m e) h = absurd (true≢false (sym h))

module _ (f : Format) (b : ℕ) {i t : ℕ} (e : i ≡ ones f * hid f) (h : t ≡ top f) where
  pub nan_read : i < b % t → nan ≡ of_bits f b
  nan_read l = sym (only_nan (of_bits f b) (sym (nan_bits_is f b) ∙ nan_bits_above f b ∙ lt-ltb (ones f * hid f) (b % top f) (rw (e, h) at l)))

  pub no_nan_read : b % t ≤ i → T (not (nan_bits f b))
  no_nan_read l = subst (λ (t : Bool). T (not t)) (sym (nan_bits_above f b ∙ le-ltb (ones f * hid f) (b % top f) (rw (e, h) at l))) tt

-- 0 / 0
pub nan_made : (f : Format) {x : Float} → x ≡ div f plus_zero plus_zero → x ≡ nan
unfolding div
nan_made binary32 e = e
nan_made binary64 e = e

-- ---- the bits of a binary32 in a wider number, where what is above the sign's bit counts as the sign

module _ (b : ℕ) {s : ℕ} (z : s ≡ min (b / 0x8000_0000) 1) where
  rest : (s * 0x8000_0000 + b % 0x8000_0000) % 0x8000_0000 ≡ b % 0x8000_0000
  rest = omega arith

  digits : (s * 0x8000_0000 + b % 0x8000_0000) % 0x80_0000 ≡ b % 0x80_0000
  digits = omega arith

  sign : leb 0x8000_0000 (s * 0x8000_0000 + b % 0x8000_0000) ≡ leb 0x8000_0000 b
  sign = grind (arith, nat_tests)

  pub folded : of_bits binary32 (s * 0x8000_0000 + b % 0x8000_0000) ≡ of_bits binary32 b
  unfolding of_bits
  folded = rw (sign, rest, digits)

  pub folded_no_nan : T (not (nan_bits binary32 b)) → T (not (nan_bits binary32 (s * 0x8000_0000 + b % 0x8000_0000)))
  unfolding nan_bits
  folded_no_nan n = rw (rest, digits) n
