-- `root_units` by the scaled number whose root has the format's digits, and the bits that stand for a root. Over the format. Assumes nothing.
use mathlib.Core.Path.{◌≡◌, refl, sym, ap, ◌∙◌, subst}
use mathlib.Core.Bool.{Bool, false, cond}
use Prim.Native.Nat.{ℕ, suc, ◌+◌, ◌-◌, ◌*◌, ◌/◌, ◌%◌, ◌^◌, ◌≤◌, ◌<◌}
use native.Mathlib.Nat.{mul_comm, le_trans, le_of_eq, le-add_left, lt_of_lt_of_le, lt_of_not-le, not-le_of_lt, mul_assoc, mul-le-mul_right, mul-le-mul_left, mul-le-mul, mul-lt-mul_of_pos_right, mul-div_cancel, mod-eq_of_lt, mod-lt, mul-one, suc-mul}
use native.Mathlib.Omega.{arith}
use lib.Dec.{T, leb, eqb, leb→le, eqb→eq, not_T, lit<, lit≤}
use lib.Pow.{pow-add, pow_pos, pow_mono}
use lib.Count.{count_leading_zeros, leading_top}
use lib.Arith.{digits_div, digits_mod, digits_lt}
use lib.Ieee.{nan, inf, Format, binary32, binary64, prec, emax, low, hid, ones, top, size, odd, of_fields, of_bits}
use lib.Ieee.Digits.{size-lt, size-le}
use lib.Ieee.Bits.{is_false, cond_no}
use Rattle.root.specs.Definition.{near_root, dropped, root_units}
use Rattle.root.proofs.Squares.{near_range}

pub size_gt : (n j : ℕ) → 2 ^ j ≤ n → j < size n
size_gt n j h = lt_of_not-le (λ (g : size n ≤ j). not-le_of_lt (lt_of_lt_of_le (size-lt n) (pow_mono g)) h)

-- two shifts are one
pub shifts : (s a b : ℕ) → s * 2 ^ a * 2 ^ b ≡ s * 2 ^ (a + b)
shifts s a b = mul_assoc s (2 ^ a) (2 ^ b) ∙ ap (λ (x : ℕ). s * x) (sym (pow-add 2 a b))

drop_is : (p k s : ℕ) → 2 * p - 2 + 2 * k < s → s ≤ 2 * p + 2 * k → (s + 1) / 2 - p ≡ k
drop_is p k s a b = omega arith

-- M is n * 2 ^ low without its 2 * k lowest digits, which are 0, and has twice the format's digits or one fewer
module _ (f : Format) (n k M : ℕ) (e : n * 2 ^ low f ≡ M * 2 ^ (2 * k)) (lo : 2 ^ (2 * prec f - 2) ≤ M) (hi : M < 2 ^ (2 * prec f)) where
  dropped_is : dropped f n ≡ k
  dropped_is =
      let N = n * 2 ^ low f in
      let lo' : 2 ^ (2 * prec f - 2 + 2 * k) ≤ N = le_trans (le_of_eq (pow-add 2 (2 * prec f - 2) (2 * k))) (le_trans (mul-le-mul_right (2 ^ (2 * k)) lo) (le_of_eq (sym e))) in
      let hi' : N < 2 ^ (2 * prec f + 2 * k) = lt_of_lt_of_le (subst (λ (x : ℕ). x < 2 ^ (2 * prec f) * 2 ^ (2 * k)) (sym e) (mul-lt-mul_of_pos_right hi (pow_pos (2 * k)))) (le_of_eq (sym (pow-add 2 (2 * prec f) (2 * k)))) in
      drop_is (prec f) k (size N) (size_gt N (2 * prec f - 2 + 2 * k) lo') (size-le N (2 * prec f + 2 * k) hi')

  pub root_units_lem : root_units f n ≡ odd (prec f) false (near_root (prec f) M) k (low f)
  unfolding root_units
  root_units_lem =
      ap (λ (x : ℕ). odd (prec f) false (near_root (prec f) (n * 2 ^ low f / 2 ^ (2 * x))) x (low f)) dropped_is
      ∙ ap (λ (x : ℕ). odd (prec f) false (near_root (prec f) x) k (low f)) (ap (λ (x : ℕ). x / 2 ^ (2 * k)) e ∙ mul-div_cancel M (pow_pos (2 * k)))

-- ---- the bits of a normal value: the leading digit adds one to the field
hid_pos : (f : Format) → 0 < hid f
hid_pos f = pow_pos (prec f - 1)

differ : (x o : ℕ) → x < o → x ≡ o → ⊥
differ x o h e = omega arith

pub fields : (f : Format) (x t : ℕ) → suc x < ones f → t < hid f → of_bits f (suc x * hid f + t) ≡ odd (prec f) false (hid f + t) x (low f)
unfolding of_bits of_fields
fields f x t h k =
    let b = suc x * hid f + t in
    let small : b < top f = lt_of_lt_of_le (digits_lt h k) (room f) in
    ap (λ (s : Bool). of_fields f s (b % top f / hid f) (b % hid f)) (is_false (leb (top f) b) (not_T (leb (top f) b) (λ (u : T (leb (top f) b)). not-le_of_lt small (leb→le (top f) b u))))
    ∙ ap (λ (y : ℕ). of_fields f false (y / hid f) (b % hid f)) (mod-eq_of_lt small)
    ∙ ap (λ (y : ℕ). of_fields f false y (b % hid f)) (digits_div (suc x) k)
    ∙ ap (λ (y : ℕ). of_fields f false (suc x) y) (digits_mod (suc x) k)
    ∙ cond_no (eqb (suc x) (ones f)) (cond (eqb t 0) (inf false) nan) (odd (prec f) false (hid f + t) x (low f))
    (not_T (eqb (suc x) (ones f)) (λ (u : T (eqb (suc x) (ones f))). differ (suc x) (ones f) h (eqb→eq (suc x) (ones f) u)))
  where
    room : (f : Format) → ones f * hid f ≤ top f
    room binary32 = lit≤ tt
    room binary64 = lit≤ tt

pub twice_hid : (f : Format) → 2 ^ prec f ≡ 2 * hid f
twice_hid binary32 = refl
twice_hid binary64 = refl

pub bits_are : (f : Format) (k q : ℕ) → suc k < ones f → hid f ≤ q → q < 2 ^ prec f → of_bits f (suc k * hid f + q % hid f) ≡ odd (prec f) false q k (low f)
bits_are f k q h lo hi = fields f k (q % hid f) h (mod-lt q (hid_pos f)) ∙ ap (λ (x : ℕ). odd (prec f) false x k (low f)) (back f q lo (subst (λ (x : ℕ). q < x) (twice_hid f) hi))
  where
    back : (f : Format) (q : ℕ) → hid f ≤ q → q < 2 * hid f → hid f + q % hid f ≡ q
    back binary32 q lo hi = omega arith
    back binary64 q lo hi = omega arith

-- ---- powers of the two formats
pub four : (f : Format) → 4 ^ prec f ≡ 2 ^ prec f * 2 ^ prec f
four binary32 = refl
four binary64 = refl

pub twice_prec : (f : Format) → 2 ^ (2 * prec f) ≡ 2 ^ prec f * 2 ^ prec f
twice_prec binary32 = refl
twice_prec binary64 = refl

pub hid_square : (f : Format) → 2 ^ (2 * prec f - 2) ≡ hid f * hid f
hid_square binary32 = refl
hid_square binary64 = refl

pub prec_pos : (f : Format) → 0 < prec f
prec_pos binary32 = lit< tt
prec_pos binary64 = lit< tt

pub wide : (f : Format) → 2 * (prec f - 1) ≤ low f
wide binary32 = lit≤ tt
wide binary64 = lit≤ tt

pub emax_two : (f : Format) → 2 ≤ emax f
emax_two binary32 = lit≤ tt
emax_two binary64 = lit≤ tt

-- ---- the root of n units, where n * 2 ^ lift is s * 2 ^ a and s has all the format's digits: one digit goes over to s where a is odd, and a / 2 digits are dropped
abbrev pub lift : Format → ℕ
lift f = low f - (prec f - 1)

abbrev pub evened : ℕ → ℕ → ℕ
evened s a = s * 2 ^ (a % 2)

pub odd_up : (s a d : ℕ) → a % 2 ≡ 1 → d ≡ 2 * s → d ≡ evened s a
odd_up s a d o k = k ∙ mul_comm 2 s ∙ ap (λ (x : ℕ). s * 2 ^ x) (sym o)

pub even_up : (s a d : ℕ) → (a % 2 ≡ 1 → ⊥) → d ≡ s → d ≡ evened s a
even_up s a d o k = k ∙ sym (mul-one s) ∙ ap (λ (x : ℕ). s * 2 ^ x) (sym (even a o))
  where
    even : (a : ℕ) → (a % 2 ≡ 1 → ⊥) → a % 2 ≡ 0
    even a h = omega (arith, h)

exponents : (a p : ℕ) → a + p ≡ a % 2 + p + 2 * (a / 2)
exponents a p = omega arith

module _ (f : Format) (s a : ℕ) (lo : hid f ≤ s) (hi : s < 2 ^ prec f) where
  scaled_is : evened s a * hid f ≡ s * 2 ^ (a % 2 + (prec f - 1))
  scaled_is = shifts s (a % 2) (prec f - 1)

  pub scaled_lo : hid f * hid f ≤ evened s a * hid f
  scaled_lo = le_trans (mul-le-mul lo (pow_mono (le-add_left (prec f - 1) (a % 2)))) (le_of_eq (sym scaled_is))

  scaled_hi : evened s a * hid f + 2 ^ prec f ≤ 2 ^ prec f * 2 ^ prec f
  scaled_hi =
      let P = 2 ^ prec f in
      let p = prec_pos f in
      let below : evened s a * hid f ≤ s * P = le_trans (le_of_eq scaled_is) (mul-le-mul_left s (pow_mono (omega arith))) in
      le_trans (omega (arith, suc-mul s P)) (mul-le-mul_right P hi)

  scaled_lt : evened s a * hid f < 2 ^ prec f * 2 ^ prec f
  scaled_lt = let h = scaled_hi in let p = pow_pos (prec f) in omega arith

  pub scaled_under : evened s a * hid f < 4 ^ prec f
  scaled_under = subst (λ (x : ℕ). evened s a * hid f < x) (sym (four f)) scaled_lt

  -- the root has the format's digits
  pub scaled_range : (hid f ≤ near_root (prec f) (evened s a * hid f)) × (near_root (prec f) (evened s a * hid f) < 2 ^ prec f)
  scaled_range = near_range (prec f) (evened s a * hid f) (hid f) (2 ^ prec f) scaled_under (pow_pos (prec f)) scaled_lo scaled_hi

  module _ (n : ℕ) (E : n * 2 ^ lift f ≡ s * 2 ^ a) where
    pub scaled_eq : n * 2 ^ low f ≡ evened s a * hid f * 2 ^ (2 * (a / 2))
    scaled_eq =
        let w = wide f in
        let e : low f ≡ lift f + (prec f - 1) = omega arith in
        ap (λ (x : ℕ). n * 2 ^ x) e ∙ sym (shifts n (lift f) (prec f - 1)) ∙ ap (λ (x : ℕ). x * hid f) E ∙ shifts s a (prec f - 1)
        ∙ ap (λ (x : ℕ). s * 2 ^ x) (exponents a (prec f - 1)) ∙ sym (shifts s (a % 2 + (prec f - 1)) (2 * (a / 2))) ∙ ap (λ (x : ℕ). x * 2 ^ (2 * (a / 2))) (sym scaled_is)

    pub scaled_root : root_units f n ≡ odd (prec f) false (near_root (prec f) (evened s a * hid f)) (a / 2) (low f)
    scaled_root = root_units_lem f n (a / 2) (evened s a * hid f) scaled_eq (le_trans (le_of_eq (hid_square f)) scaled_lo) (subst (λ (x : ℕ). evened s a * hid f < x) (sym (twice_prec f)) scaled_lt)

    pub scaled_bits : suc (a / 2) < ones f → of_bits f (suc (a / 2) * hid f + near_root (prec f) (evened s a * hid f) % hid f) ≡ root_units f n
    scaled_bits h = bits_are f (a / 2) (near_root (prec f) (evened s a * hid f)) h scaled_range.0 scaled_range.1 ∙ sym scaled_root

-- ---- how far up a subnormal goes: a W-bit count of leading zeros, less the W - p places above the format's digits
pub normal : (W p s : ℕ) → 0 < p → p ≤ W → 0 < s → s < 2 ^ p
    → (W - p ≤ count_leading_zeros W s) × (count_leading_zeros W s - (W - p) ≤ p - 1) × (2 ^ (p - 1) ≤ s * 2 ^ (count_leading_zeros W s - (W - p))) × (s * 2 ^ (count_leading_zeros W s - (W - p)) < 2 ^ p)
normal W p s P w pos small =
    let t = leading_top W s pos (lt_of_lt_of_le small (pow_mono w)) in
    let j = t.0 in
    let l = count_leading_zeros W s in
    let z = l - (W - p) in
    let sum : l + suc j ≡ W = t.1 in
    let J : j < p = lt_of_not-le (λ (g : p ≤ j). not-le_of_lt small (le_trans (pow_mono g) t.2)) in
    let lo : p - 1 ≡ j + z = omega arith in
    let hi : suc j + z ≡ p = omega arith in (
      omega arith,
      omega arith,
      le_trans (le_of_eq (ap (λ (x : ℕ). 2 ^ x) lo ∙ pow-add 2 j z)) (mul-le-mul_right (2 ^ z) t.2),
      lt_of_lt_of_le (mul-lt-mul_of_pos_right t.3 (pow_pos z)) (le_of_eq (sym (pow-add 2 (suc j) z) ∙ ap (λ (x : ℕ). 2 ^ x) hi)),
    )

-- s moved up by z, and the exponent as much lower: the same number of units
pub moved_same : (f : Format) (s z j : ℕ) → z ≤ prec f - 1 → s * 2 ^ j * 2 ^ lift f ≡ s * 2 ^ z * 2 ^ (j + lift f - z)
moved_same f s z j h =
    let w = wide f in
    let e : j + lift f ≡ z + (j + lift f - z) = omega arith in
    shifts s j (lift f) ∙ ap (λ (x : ℕ). s * 2 ^ x) e ∙ sym (shifts s z (j + lift f - z))
