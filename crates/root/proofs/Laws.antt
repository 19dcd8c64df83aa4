-- `root_of` is the root of IEEE 754, to nearest: over the format, no value is nearer to the exact root, and any value that no other is nearer than is `root_of`'s,
-- but for the sign of a zero. Assumes nothing.
use mathlib.Core.Path.{◌≡◌, refl, sym, ap, ◌∙◌, subst}
use mathlib.Core.Bool.{Bool, true, false, ◌&&◌}
use Prim.Native.Nat.{ℕ, zero, suc, ◌+◌, ◌-◌, ◌*◌, ◌/◌, ◌%◌, ◌^◌, ◌≤◌, ◌<◌}
use native.Mathlib.Nat.{le_trans, le_of_eq, le_of_lt, lt_of_lt_of_le, lt_of_not-le, not-le_of_lt, zero-lt-suc, mul_right_comm, mul-le-mul, mul-le-mul_right, mul-lt-mul_of_pos_right, mul-pos, le_refl, add_comm, zero-mul, lt_irrefl, lt_of_mul-lt-mul_right}
use native.Mathlib.Omega.{arith}
use lib.Dec.{T, lt→ltb}
use lib.Pow.{pow-add, pow_pos, pow_mono}
use lib.IntN.{ℤ, pos}
use lib.Count.{count_leading_zeros}
use lib.Ieee.{Float, nan, inf, fin, Format, prec, emax, low, hid, up, down, odd, fits, of_bits, lt}
use lib.Ieee.Fits.{two, up_pos, and_i}
use lib.Ieee.Exact.{HasValue, odd_sign}
use lib.Ieee.Bits.{of_bits-fits, is_true}
use lib.Ieee.Scale.{overflow, finite}
use Rattle.floats.specs.Numbers.{plus_zero, above_zero}
use Rattle.floats.specs.Units.{units_of}
use Rattle.floats.proofs.Units.{lt_units, finite_value}
use Rattle.floats.proofs.Grid.{held, units_is, same_value}
use Rattle.root.specs.Definition.{near_root, root_units, root_of, rooted}
use Rattle.root.specs.Nearest.{NoNearer, Nearest}
use Rattle.root.proofs.Scaled.{wide, emax_two, normal, moved_same, lift, evened, scaled_eq, scaled_lo, scaled_under, scaled_range, scaled_root, scaled_bits, twice_hid, prec_pos}
use Rattle.root.proofs.Values.{rooted_above}
use Rattle.root.proofs.Gaps.{Nearer, nearer}

-- ---- the number whose root has the format's digits
record Scaled (f : Format) (n : ℕ) : Type 0 where
  M : ℕ
  k : ℕ
  eq : n * 2 ^ low f ≡ M * 2 ^ (2 * k)
  lo : hid f * hid f ≤ M
  hi : M < 4 ^ prec f
  up_to : (hid f ≤ near_root (prec f) M) × (near_root (prec f) M < 2 ^ prec f)
  is : root_units f n ≡ odd (prec f) false (near_root (prec f) M) k (low f)
  bits : of_bits f (suc k * hid f + near_root (prec f) M % hid f) ≡ root_units f n

-- s * 2 ^ j is below 2 ^ t, and s * 2 ^ z is 2 ^ h at least
exponent_lt : (s j z h t : ℕ) → s * 2 ^ j < 2 ^ t → 2 ^ h ≤ s * 2 ^ z → h + j < t + z
exponent_lt s j z h t a b =
    lt_of_not-le (λ (g : t + z ≤ h + j).
    not-le_of_lt (mul-lt-mul_of_pos_right a (pow_pos z))
    (le_trans (le_of_eq (sym (pow-add 2 t z))) (le_trans (pow_mono g) (le_trans (le_of_eq (pow-add 2 h j)) (le_trans (mul-le-mul_right (2 ^ j) b) (le_of_eq (mul_right_comm s (2 ^ z) (2 ^ j))))))))

small : (p m j z l : ℕ) → 2 ≤ p → 2 ≤ m → l ≡ m + p - 2 → z ≤ p - 1 → 2 * (p - 1) ≤ l → p - 1 + j < l + suc m + z → suc ((j + (l - (p - 1)) - z) / 2) < 2 * m + 1
small p m j z l a b c d e f = omega arith

scaled : (f : Format) (s j : ℕ) → 0 < s → s < 2 ^ prec f → s * 2 ^ j < overflow f → Scaled f (s * 2 ^ j)
scaled f s j S d u =
    let p = prec f in
    let n = normal p p s (prec_pos f) (le_refl p) S d in
    let z = count_leading_zeros p s - (p - p) in
    let a = j + lift f - z in
    let D = s * 2 ^ z in
    let E = moved_same f s z j n.1 in
    record {
      M = evened D a * hid f;
      k = a / 2;
      eq = scaled_eq f D a n.2 n.3 (s * 2 ^ j) E;
      lo = scaled_lo f D a n.2 n.3;
      hi = scaled_under f D a n.2 n.3;
      up_to = scaled_range f D a n.2 n.3;
      is = scaled_root f D a n.2 n.3 (s * 2 ^ j) E;
      bits = scaled_bits f D a n.2 n.3 (s * 2 ^ j) E (small p (emax f) j z (low f) (two f) (emax_two f) refl n.1 (wide f) (exponent_lt s j z (p - 1) (low f + suc (emax f)) u n.2));
    }

-- ---- a zero is 0 units, and what has a digit is more
zero_fits : (f : Format) (s : Bool) → T (fits f (fin s 0 (pos 0)))
unfolding fits
zero_fits f s = tt

zero_value : (f : Format) (s : Bool) (e : ℤ) → HasValue (fin s 0 e) s 0 (2 ^ low f)
zero_value f s e = (refl, ap (λ (x : ℕ). x * 2 ^ low f) (zero-mul (up e)) ∙ zero-mul (2 ^ low f) ∙ sym (zero-mul (down e)))

units_zero : (f : Format) (e : ℤ) → 0 * up e * 2 ^ low f / down e ≡ 0
units_zero f e = units_is f (fin false 0 e) false 0 (zero_value f false e)

left_pos : (a b : ℕ) → 0 < a * b → 0 < a
left_pos a b h = lt_of_mul-lt-mul_right b (subst (λ (x : ℕ). x < a * b) (sym (zero-mul b)) h)

units_pos : (f : Format) (s : Bool) (m : ℕ) (e : ℤ) → T (fits f (fin s (suc m) e)) → 0 < units_of f (fin s (suc m) e)
units_pos f s m e h =
    left_pos (units_of f (fin s (suc m) e)) (down e)
    (subst (λ (x : ℕ). 0 < x) (held f s (suc m) e h).value.1 (mul-pos (mul-pos (zero-lt-suc m) (up_pos e)) (pow_pos (low f))))

root_is : (f : Format) (m : ℕ) (e : ℤ) → root_of f (fin false (suc m) e) ≡ root_units f (units_of f (fin false (suc m) e))
unfolding root_of
root_is f m e = refl

-- ---- from strictly nearer to no nearer
no_nearer : (N a b : ℕ) (s : Bool) → Nearer N a b → Nearer N a 0 → NoNearer N a s b
no_nearer N a b false w z = ((λ h. le_of_lt (w.0 h)), (λ h. le_of_lt (w.1 h)))
no_nearer N a b true w z = λ h. le_trans (mul-le-mul (less a b) (less a b)) (le_of_lt (z.0 (omega arith)))
  where
    less : (a b : ℕ) → a - b ≤ a + 0
    less a b = omega arith

-- a value as near as the root has its units
meet : (N a b : ℕ) → Nearer N a b → NoNearer N b false a → b ≡ a
meet N a b w v =
    let l : a ≤ b = le_of_not_lt a b (λ h. not-le_of_lt (w.0 h) (subst (λ (x : ℕ). 4 * N ≤ x * x) (add_comm b a) (v.1 h))) in
    let g : b ≤ a = le_of_not_lt b a (λ h. not-le_of_lt (w.1 h) (subst (λ (x : ℕ). x * x ≤ 4 * N) (add_comm b a) (v.0 h))) in
    omega arith
  where
    le_of_not_lt : (a b : ℕ) → (b < a → ⊥) → a ≤ b
    le_of_not_lt a b h = omega (arith, h)

-- what the law says of a finite value, of a y that is one
at_value : (f : Format) (x r y : Float) (a c : ℕ) → Nearest f x r → HasValue y false a c → T (fits f y) → NoNearer (units_of f x * 2 ^ low f) (units_of f r) false (units_of f y)
at_value f x r nan a c n v F = absurd v
at_value f x r (inf t) a c n v F = absurd v
at_value f x r (fin t m e) a c n v F = subst (λ (s : Bool). NoNearer (units_of f x * 2 ^ low f) (units_of f r) s (units_of f (fin t m e))) v.0 (n.nearest t m e F)

-- ---- what is above zero
module _ (f : Format) (m : ℕ) (e : ℤ) (h : T (fits f (fin false (suc m) e))) where
  abbrev X : Float
  X = fin false (suc m) e

  abbrev R : Float
  R = root_of f X

  scaled_x : Scaled f (units_of f X)
  scaled_x =
      let x = held f false (suc m) e h in
      let g = x.short in
      subst (Scaled f) (sym g.is) (scaled f g.digits g.shift (left_pos g.digits (2 ^ g.shift) (subst (λ (y : ℕ). 0 < y) g.is (units_pos f false m e h))) g.small (subst (λ (y : ℕ). y < overflow f) g.is x.under))

  -- the root, in units
  abbrev A : ℕ
  A = near_root (prec f) scaled_x.M * 2 ^ scaled_x.k

  root_value : HasValue R false A (2 ^ low f)
  root_value =
      let x = scaled_x in
      let q = near_root (prec f) x.M in
      subst (λ (y : Float). HasValue y false (q * 2 ^ x.k) (2 ^ low f)) (sym (root_is f m e ∙ x.is)) (odd_sign (prec f) false q x.k (low f))

  root_at : units_of f R ≡ A
  root_at = units_is f R false A root_value

  pub root_fits : T (fits f (root_of f (fin false (suc m) e)))
  root_fits = let x = scaled_x in subst (λ (y : Float). T (fits f y)) (x.bits ∙ sym (root_is f m e)) (of_bits-fits f (suc x.k * hid f + near_root (prec f) x.M % hid f))

  -- the root is strictly nearer than any other value
  root_nearer : (s : Bool) (n : ℕ) (d : ℤ) → T (fits f (fin s n d)) → Nearer (units_of f X * 2 ^ low f) (units_of f R) (units_of f (fin s n d))
  root_nearer s n d t =
      let x = scaled_x in
      let y = (held f s n d t).short in
      let w = nearer (prec f) x.M (hid f) x.k y.digits y.shift x.hi x.lo (le_of_eq (twice_hid f)) y.small in
      rw (x.eq, root_at, y.is) w

  root_pos : 0 < A
  root_pos = mul-pos (lt_of_lt_of_le (pow_pos (prec f - 1)) scaled_x.up_to.0) (pow_pos scaled_x.k)

  pub root_rooted : T (rooted (root_of f (fin false (suc m) e)))
  root_rooted = subst T (sym (rooted_above R A (2 ^ low f) root_pos root_value)) tt

  pub root_above : above_zero (root_of f (fin false (suc m) e)) ≡ true
  unfolding above_zero
  root_above =
      is_true (finite R && lt plus_zero R)
      (and_i (finite R) (lt plus_zero R) (finite_value R false A (2 ^ low f) root_value)
      (subst T (sym (lt_units plus_zero R false false 0 A (2 ^ low f) (pow_pos (low f)) (zero_value f false (pos 0)) root_value)) (lt→ltb 0 A root_pos)))

  -- NO VALUE OF THE FORMAT IS NEARER
  pub root_nearest : Nearest f (fin false (suc m) e) (root_of f (fin false (suc m) e))
  root_nearest =
      record {
        held = root_fits;
        possible = root_rooted;
        nearest = λ s n d t.
            no_nearer (units_of f X * 2 ^ low f) (units_of f R) (units_of f (fin s n d)) s (root_nearer s n d t)
            (subst (λ (z : ℕ). Nearer (units_of f X * 2 ^ low f) (units_of f R) z) (units_zero f (pos 0)) (root_nearer false 0 (pos 0) (zero_fits f false)));
      }

  only_at : (s : Bool) (n : ℕ) (d : ℤ) → Nearest f X (fin s n d) → units_of f (fin s n d) ≡ units_of f R
  only_at s n d r =
      meet (units_of f X * 2 ^ low f) (units_of f R) (units_of f (fin s n d)) (root_nearer s n d r.held)
      (at_value f X (fin s n d) R A (2 ^ low f) r root_value root_fits)

  -- AND NO OTHER VALUE IS AS NEAR
  pub root_only : (r : Float) → Nearest f (fin false (suc m) e) r → r ≡ root_of f (fin false (suc m) e)
  unfolding rooted
  root_only nan r = absurd r.possible
  root_only (inf s) r = absurd r.possible
  root_only (fin s zero d) r = absurd (no_root (sym (units_zero f d) ∙ only_at s zero d r ∙ root_at))
    where
      no_root : 0 ≡ A → ⊥
      no_root z = let p = root_pos in omega arith
  root_only (fin true (suc n) d) r = absurd r.possible
  root_only (fin false (suc n) d) r =
      same_value f (fin false (suc n) d) R false A r.held root_fits
      (subst (λ (k : ℕ). HasValue (fin false (suc n) d) false k (2 ^ low f)) (only_at false (suc n) d r ∙ root_at) (held f false (suc n) d r.held).value) root_value

  pub two_alike : (r t : Float) → Nearest f (fin false (suc m) e) r → Nearest f (fin false (suc m) e) t → r ≡ t
  two_alike r t a b = root_only r a ∙ sym (root_only t b)

-- ---- a zero: its root is 0, to which both zeros are nearest, and nothing else is
at_zero : (s : Bool) (b : ℕ) → NoNearer 0 0 s b
at_zero false b = ((λ (h : b < 0). absurd (omega arith)), λ (h : 0 < b). omega arith)
at_zero true b = λ (h : b < 0). absurd (omega arith)

only_zero : (a : ℕ) → NoNearer 0 a false 0 → a ≡ 0
only_zero zero h = refl
only_zero (suc a) h = let k = h.0 (zero-lt-suc a) in absurd (omega arith)

module _ (f : Format) (s : Bool) (e : ℤ) where
  nothing : units_of f (fin s zero e) * 2 ^ low f ≡ 0
  nothing = ap (λ (x : ℕ). x * 2 ^ low f) (units_zero f e) ∙ zero-mul (2 ^ low f)

  pub zero_nearest : (t : Bool) (d : ℤ) → T (fits f (fin t zero d)) → Nearest f (fin s zero e) (fin t zero d)
  unfolding rooted
  zero_nearest t d h = record {
    held = h;
    possible = tt;
    nearest = λ b n k g.
        subst (λ (N : ℕ). NoNearer N (units_of f (fin t zero d)) b (units_of f (fin b n k))) (sym nothing)
        (subst (λ (a : ℕ). NoNearer 0 a b (units_of f (fin b n k))) (sym (units_zero f d)) (at_zero b (units_of f (fin b n k))));
  }

  pub zero_units : (r : Float) → Nearest f (fin s zero e) r → units_of f r ≡ 0
  zero_units r h =
      only_zero (units_of f r)
      (subst (λ (N : ℕ). NoNearer N (units_of f r) false 0) nothing
      (subst (λ (b : ℕ). NoNearer (units_of f (fin s zero e) * 2 ^ low f) (units_of f r) false b) (units_zero f (pos 0)) (h.nearest false 0 (pos 0) (zero_fits f false))))

  pub zero_only : (r : Float) → Nearest f (fin s zero e) r → (t : Bool) × (r ≡ fin t zero (pos 0))
  unfolding rooted
  zero_only nan h = absurd h.possible
  zero_only (inf t) h = absurd h.possible
  zero_only (fin t zero d) h = (t, same_value f (fin t zero d) (fin t zero (pos 0)) t 0 h.held (zero_fits f t) (zero_value f t d) (zero_value f t (pos 0)))
  zero_only (fin t (suc n) d) h = absurd (lt_irrefl 0 (subst (λ (x : ℕ). 0 < x) (zero_units (fin t (suc n) d) h) (units_pos f t n d h.held)))
