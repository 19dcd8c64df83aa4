-- `root_of` and `rooted` by the number that a value is, and by the bits that stand for it. Over the format. Assumes nothing.
use mathlib.Core.Path.{◌≡◌, refl, sym, ap, ◌∙◌, subst}
use mathlib.Core.Bool.{Bool, true, false, not, cond, true≢false}
use Prim.Native.Nat.{ℕ, zero, suc, ◌+◌, ◌-◌, ◌*◌, ◌/◌, ◌%◌, ◌^◌, ◌≤◌, ◌<◌}
use native.Mathlib.Nat.{lt_of_lt_of_le, not-le_of_lt, mul-pos, zero-mul, mod-eq_of_lt, div-eq_of_lt}
use native.Mathlib.Omega.{arith}
use lib.Dec.{T, leb, eqb, leb→le, T_not, not_T, lit≤}
use lib.Pow.{pow_pos}
use lib.Ieee.{Float, nan, inf, fin, Format, binary32, binary64, prec, low, hid, ones, top, up, down, odd, of_fields, of_bits, ne, is_nan}
use lib.Ieee.Bits.{is_false}
use lib.Ieee.Fits.{down_pos, eq→eqb}
use lib.Ieee.Exact.{HasValue, odd_sign}
use lib.Ieee.Compare.{differs_from_itself}
use native.Mathlib.Decide.{dec_lt}
use borrow.Author.Tests.{le-leb}
use Rattle.floats.proofs.Grid.{units_is}
use Rattle.root.specs.Definition.{root_units, root_of, rooted}
use Rattle.root.proofs.Scaled.{fields}

no_zero : (e a c : ℕ) → 0 < a → 0 * e * c ≡ a → ⊥
no_zero e a c h k = let z : 0 * e * c ≡ 0 = ap (λ (x : ℕ). x * c) (zero-mul e) ∙ zero-mul c in omega arith

-- ---- by the number
pub root_of_value : (f : Format) (x : Float) (a : ℕ) → 0 < a → HasValue x false a (2 ^ low f) → root_of f x ≡ root_units f a
unfolding root_of
root_of_value f nan a h v = absurd v
root_of_value f (inf s) a h v = absurd v
root_of_value f (fin true zero e) a h v = absurd (true≢false v.0)
root_of_value f (fin false zero e) a h v = absurd (no_zero (up e) (a * down e) (2 ^ low f) (mul-pos h (down_pos e)) v.1)
root_of_value f (fin true (suc m) e) a h v = absurd (true≢false v.0)
root_of_value f (fin false (suc m) e) a h v = ap (root_units f) (units_is f (fin false (suc m) e) false a v)

pub rooted_above : (x : Float) (a c : ℕ) → 0 < a → HasValue x false a c → rooted x ≡ true
unfolding rooted
rooted_above nan a c h v = absurd v
rooted_above (inf s) a c h v = absurd v
rooted_above (fin s zero e) a c h v = refl
rooted_above (fin true (suc m) e) a c h v = absurd (true≢false v.0)
rooted_above (fin false (suc m) e) a c h v = refl

pub rooted_below : (x : Float) (a c : ℕ) → 0 < a → HasValue x true a c → rooted x ≡ false
unfolding rooted
rooted_below nan a c h v = absurd v
rooted_below (inf s) a c h v = absurd v
rooted_below (fin s zero e) a c h v = absurd (no_zero (up e) (a * down e) c (mul-pos h (down_pos e)) v.1)
rooted_below (fin true (suc m) e) a c h v = refl
rooted_below (fin false (suc m) e) a c h v = absurd (true≢false (sym v.0))

-- ---- by the bits
pub of_bits_is : (f : Format) (b : ℕ) → of_bits f b ≡ of_fields f (leb (top f) b) (b % top f / hid f) (b % hid f)
unfolding of_bits
of_bits_is f b = refl

hid_top : (f : Format) → hid f ≤ top f
hid_top binary32 = lit≤ tt
hid_top binary64 = lit≤ tt

-- no exponent's field: a subnormal value
pub low_bits : (f : Format) (b : ℕ) → b < hid f → of_bits f b ≡ odd (prec f) false b 0 (low f)
unfolding of_fields
low_bits f b h =
    let small : b < top f = lt_of_lt_of_le h (hid_top f) in
    of_bits_is f b
    ∙ ap (λ (s : Bool). of_fields f s (b % top f / hid f) (b % hid f)) (is_false (leb (top f) b) (not_T (leb (top f) b) (λ (u : T (leb (top f) b)). not-le_of_lt small (leb→le (top f) b u))))
    ∙ ap (λ (y : ℕ). of_fields f false (y / hid f) (b % hid f)) (mod-eq_of_lt small)
    ∙ ap (λ (y : ℕ). of_fields f false y (b % hid f)) (div-eq_of_lt h)
    ∙ ap (λ (y : ℕ). of_fields f false 0 y) (mod-eq_of_lt h)

-- a zero of either sign
pub zero_fields : (f : Format) (s : Bool) → (rooted (of_fields f s 0 0) ≡ true) × (root_of f (of_fields f s 0 0) ≡ of_fields f s 0 0)
unfolding rooted root_of of_fields
zero_fields f s = (refl, refl)

-- a NaN, an infinity, and what is below zero
refused_at : (f : Format) (x t : ℕ) (s b z : Bool) → (T (not b) → s ≡ true) → rooted (cond b (cond z (inf s) nan) (odd (prec f) s (hid f + t) x (low f))) ≡ false
unfolding rooted
refused_at f x t s true true h = refl
refused_at f x t s true false h = refl
refused_at f x t s false z h =
    rooted_below (odd (prec f) s (hid f + t) x (low f)) ((hid f + t) * 2 ^ x) (2 ^ low f) (mul-pos (let p = pow_pos (prec f - 1) in omega arith) (pow_pos x))
    (subst (λ (u : Bool). HasValue (odd (prec f) s (hid f + t) x (low f)) u ((hid f + t) * 2 ^ x) (2 ^ low f)) (h tt) (odd_sign (prec f) s (hid f + t) x (low f)))

pub refused_fields : (f : Format) (s : Bool) (x t : ℕ) → ((x ≡ ones f → ⊥) → s ≡ true) → (x ≡ 0 → 0 < t) → (x ≡ 0 → s ≡ true) → rooted (of_fields f s x t) ≡ false
unfolding of_fields
refused_fields f s zero t h k l =
    rooted_below (odd (prec f) s t 0 (low f)) (t * 2 ^ 0) (2 ^ low f) (mul-pos (k refl) (pow_pos 0))
    (subst (λ (u : Bool). HasValue (odd (prec f) s t 0 (low f)) u (t * 2 ^ 0) (2 ^ low f)) (l refl) (odd_sign (prec f) s t 0 (low f)))
refused_fields f s (suc x) t h k l = refused_at f x t s (eqb (suc x) (ones f)) (eqb t 0) (λ u. h (λ (e : suc x ≡ ones f). ne_eqb_T (suc x) (ones f) u e))
  where
    ne_eqb_T : (a b : ℕ) → T (not (eqb a b)) → a ≡ b → ⊥
    ne_eqb_T a b u e = T_not (eqb a b) u (eq→eqb e)

-- what is above zero and finite
low_value : (f : Format) (b : ℕ) → b < hid f → HasValue (of_bits f b) false (b * 2 ^ 0) (2 ^ low f)
low_value f b h = subst (λ (y : Float). HasValue y false (b * 2 ^ 0) (2 ^ low f)) (sym (low_bits f b h)) (odd_sign (prec f) false b 0 (low f))

high_value : (f : Format) (x t : ℕ) → suc x < ones f → t < hid f → HasValue (of_bits f (suc x * hid f + t)) false ((hid f + t) * 2 ^ x) (2 ^ low f)
high_value f x t h k = subst (λ (y : Float). HasValue y false ((hid f + t) * 2 ^ x) (2 ^ low f)) (sym (fields f x t h k)) (odd_sign (prec f) false (hid f + t) x (low f))

high_pos : (f : Format) (x t : ℕ) → 0 < (hid f + t) * 2 ^ x
high_pos f x t = mul-pos (let p = pow_pos (prec f - 1) in omega arith) (pow_pos x)

pub low_root : (f : Format) (b : ℕ) → 0 < b → b < hid f → root_of f (of_bits f b) ≡ root_units f (b * 2 ^ 0)
low_root f b p h = root_of_value f (of_bits f b) (b * 2 ^ 0) (mul-pos p (pow_pos 0)) (low_value f b h)

pub low_rooted : (f : Format) (b : ℕ) → 0 < b → b < hid f → rooted (of_bits f b) ≡ true
low_rooted f b p h = rooted_above (of_bits f b) (b * 2 ^ 0) (2 ^ low f) (mul-pos p (pow_pos 0)) (low_value f b h)

pub high_root : (f : Format) (x t : ℕ) → suc x < ones f → t < hid f → root_of f (of_bits f (suc x * hid f + t)) ≡ root_units f ((hid f + t) * 2 ^ x)
high_root f x t h k = root_of_value f (of_bits f (suc x * hid f + t)) ((hid f + t) * 2 ^ x) (high_pos f x t) (high_value f x t h k)

pub high_rooted : (f : Format) (x t : ℕ) → suc x < ones f → t < hid f → rooted (of_bits f (suc x * hid f + t)) ≡ true
high_rooted f x t h k = rooted_above (of_bits f (suc x * hid f + t)) ((hid f + t) * 2 ^ x) (2 ^ low f) (high_pos f x t) (high_value f x t h k)

-- ---- which bits have a root
parts : (f : Format) (b : ℕ) → hid f ≤ b → suc (b / hid f - 1) * hid f + b % hid f ≡ b
parts binary32 b h = omega arith
parts binary64 b h = omega arith

field_in : (f : Format) (b : ℕ) → hid f ≤ b → b < ones f * hid f → (suc (b / hid f - 1) < ones f) × (b % hid f < hid f)
field_in binary32 b h k = (omega arith, omega arith)
field_in binary64 b h k = (omega arith, omega arith)

no_field : (f : Format) (b : ℕ) → b % top f ≡ 0 → b % hid f ≡ 0
no_field binary32 b h = omega arith
no_field binary64 b h = omega arith

no_zero_field : (f : Format) → 0 / hid f ≡ 0
no_zero_field binary32 = refl
no_zero_field binary64 = refl

sign_is : (f : Format) (b : ℕ) → ones f * hid f ≤ b → (b % top f / hid f ≡ ones f → ⊥) → top f ≤ b
sign_is binary32 b h k = omega (arith, k)
sign_is binary64 b h k = omega (arith, k)

sign_of_low : (f : Format) (b : ℕ) → ones f * hid f ≤ b → b % top f / hid f ≡ 0 → top f ≤ b
sign_of_low binary32 b h k = omega arith
sign_of_low binary64 b h k = omega arith

digits_of_low : (f : Format) (b : ℕ) → (b % top f ≡ 0 → ⊥) → b % top f / hid f ≡ 0 → 0 < b % hid f
digits_of_low binary32 b h k = omega (arith, h)
digits_of_low binary64 b h k = omega (arith, h)

pub zero_bits : (f : Format) (b : ℕ) → b % top f ≡ 0 → (rooted (of_bits f b) ≡ true) × (root_of f (of_bits f b) ≡ of_bits f b)
zero_bits f b h =
    let s = leb (top f) b in
    let e : of_bits f b ≡ of_fields f s 0 0 =
    of_bits_is f b ∙ ap (λ (x : ℕ). of_fields f s (x / hid f) (b % hid f)) h ∙ ap (λ (x : ℕ). of_fields f s x (b % hid f)) (no_zero_field f) ∙ ap (λ (t : ℕ). of_fields f s 0 t) (no_field f b h) in
    subst (λ (v : Float). (rooted v ≡ true) × (root_of f v ≡ v)) (sym e) (zero_fields f s)

-- an infinity, a NaN, or a sign with something below it
pub refused_bits : (f : Format) (b : ℕ) → (b % top f ≡ 0 → ⊥) → ones f * hid f ≤ b → rooted (of_bits f b) ≡ false
refused_bits f b n h =
    ap rooted (of_bits_is f b)
    ∙ refused_fields f (leb (top f) b) (b % top f / hid f) (b % hid f) (λ k. le-leb (top f) b (sign_is f b h k)) (λ k. digits_of_low f b n k) (λ k. le-leb (top f) b (sign_of_low f b h k))

pub rooted_bits : (f : Format) (b : ℕ) → 0 < b → b < ones f * hid f → rooted (of_bits f b) ≡ true
rooted_bits f b n h = go (dec_lt b (hid f))
  where
    go : Dec (b < hid f) → rooted (of_bits f b) ≡ true
    go (yes k) = low_rooted f b n k
    go (no k) =
        let l : hid f ≤ b = omega (arith, k) in
        let i = field_in f b l h in
        sym (ap (λ (x : ℕ). rooted (of_bits f x)) (parts f b l)) ∙ high_rooted f (b / hid f - 1) (b % hid f) i.0 i.1

-- the root of what the bits stand for, with an exponent's field
pub bits_root : (f : Format) (b : ℕ) → hid f ≤ b → b < ones f * hid f → root_of f (of_bits f b) ≡ root_units f ((hid f + b % hid f) * 2 ^ (b / hid f - 1))
bits_root f b l h =
    let i = field_in f b l h in
    sym (ap (λ (x : ℕ). root_of f (of_bits f x)) (parts f b l)) ∙ high_root f (b / hid f - 1) (b % hid f) i.0 i.1

-- ---- NaN
pub no_nan : (x : Float) → ne x x ≡ false → T (not (is_nan x))
unfolding is_nan ne
no_nan nan h = absurd (true≢false h)
no_nan (inf s) h = tt
no_nan (fin s m e) h = tt

pub is_nan_lem : (x : Float) → ne x x ≡ true → rooted x ≡ false
unfolding rooted
is_nan_lem x h = ap rooted (differs_from_itself x (subst T (sym h) tt))
