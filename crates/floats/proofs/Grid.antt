-- Whole numbers of units of a format's smallest value, 2 ^ -low, that the format holds, and where rounding changes nothing.
-- `Short f U`: U is q * 2 ^ j with q of no more digits than f keeps. Assumes nothing.
use mathlib.Core.Path.{◌≡◌, refl, sym, ap, ◌∙◌, subst}
use mathlib.Core.Bool.{Bool, true, false, not, ◌&&◌, cond}
use Prim.Native.Nat.{ℕ, zero, suc, ◌+◌, ◌-◌, ◌*◌, ◌/◌, ◌%◌, ◌^◌, ◌≤◌, ◌<◌, compare}
use native.Mathlib.Nat.{le_of_lt, lt_of_lt_of_le, lt_of_le_of_lt, not-le_of_lt, mod-le, mod-lt, mod-one, div-one, mul_assoc, mul_comm, mul-one, mul_right_comm, mul-sub, mul-pos, zero-mul, zero-lt-suc, two-pow-succ, mul-div_cancel, mul-lt-mul_of_pos_right, lt_of_mul-lt-mul_right, le_of_mul-le-mul_right, mul-add}
use native.Mathlib.Omega.{arith}
use lib.IntN.{ℤ, pos, negsuc}
use lib.Dec.{T, leb, ltb, eqb, ltb→lt, leb→le, nleb→lt}
use lib.Pow.{pow-add, pow_pos, pow-lt, shl_lt}
use lib.Ieee.{Float, nan, inf, fin, Format, prec, emax, low, hid, top, up, down, size, nearest, odd, units, round, neg, sum, add, fits, to_bits, of_bits}
use lib.Ieee.Digits.{back, size-le}
use lib.Ieee.Fits.{and_l, and_r, down_pos, round_is}
use lib.Ieee.Exact.{HasValue, round_exact}
use lib.Ieee.Bits.{of_bits-to_bits}
use lib.Ieee.Nearest.{closest, closest_same}
use lib.Ieee.Scale.{grid, overflow, finite, round_under}
use Rattle.floats.specs.Units.{units_of, minus?, signed, scaled}
use Rattle.floats.proofs.Units.{scale_mod, neg_units, add_units}

pub record Short (f : Format) (n : ℕ) : Type 0 where
  pub digits : ℕ
  pub shift : ℕ
  pub small : digits < 2 ^ prec f
  pub is : n ≡ digits * 2 ^ shift

-- a short number below the overflow rounds to itself
pub round_short : (f : Format) (s : Bool) (n : ℕ) → Short f n → n < overflow f → HasValue (round f s n (2 ^ low f)) s n (2 ^ low f)
round_short f s n h u =
    round_exact f s n (2 ^ low f) h.digits h.shift (pow_pos (low f)) h.small (subst (λ (x : ℕ). x < overflow f) h.is u) (ap (λ (x : ℕ). x * 2 ^ low f) h.is)

-- and where it rounds to something finite, it is below the overflow
spare : (z p l : ℕ) → z ≤ p + l → z - p ≤ l
spare z p l h = omega arith

closest_whole : (r : ℕ) → closest r 1 ≡ r
closest_whole r = ap (λ (x : ℕ). nearest (r / 1) (compare (x * 2) 1)) (mod-one r) ∙ div-one r

pub grid_short : (f : Format) (n : ℕ) → Short f n → grid f n (2 ^ low f) ≡ n
grid_short f n h =
    let l = 2 ^ low f in
    let L : 0 < l = pow_pos (low f) in
    let q = h.digits in
    let j = h.shift in
    let e1 : n * l / l ≡ n = mul-div_cancel n L in
    let k = size (n * l / l) - prec f in
    let k_le : k ≤ j = spare (size (n * l / l)) (prec f) j (size-le (n * l / l) (prec f + j) (subst (λ (x : ℕ). x < 2 ^ (prec f + j)) (sym (e1 ∙ h.is)) (shl_lt (prec f) j h.small))) in
    let r = q * 2 ^ (j - k) in
    let e3 : r * 2 ^ k ≡ n = mul_assoc q (2 ^ (j - k)) (2 ^ k) ∙ ap (λ (x : ℕ). q * x) (sym (pow-add 2 (j - k) k) ∙ ap (λ (x : ℕ). 2 ^ x) (back j k k_le)) ∙ sym h.is in
    let e2 : n * l * 1 ≡ r * (l * 2 ^ k) = mul-one (n * l) ∙ ap (λ (x : ℕ). x * l) (sym e3) ∙ mul_assoc r (2 ^ k) l ∙ ap (λ (x : ℕ). r * x) (mul_comm (2 ^ k) l) in
    ap (λ (x : ℕ). x * 2 ^ k) (closest_same (n * l) (l * 2 ^ k) r 1 (mul-pos L (pow_pos k)) (zero-lt-suc 0) e2 ∙ closest_whole r) ∙ e3

-- the sign doesn't tell whether it does
finite_sign : (f : Format) (s : Bool) (n l : ℕ) → finite (round f s n l) ≡ finite (round f false n l)
unfolding units odd
finite_sign f s n l = ap finite (round_is f s n l) ∙ either _ _ ∙ ap finite (sym (round_is f false n l))
  where
    either : (q k : ℕ) → finite (units f s q k) ≡ finite (units f false q k)
    either q k = go (ltb (q * 2 ^ k) (overflow f)) q
      where
        go : (b : Bool) (q : ℕ) → finite (cond b (odd (suc (prec f)) s q k (low f)) (inf s)) ≡ finite (cond b (odd (suc (prec f)) false q k (low f)) (inf false))
        go true zero = refl
        go true (suc q) = refl
        go false q = refl

pub short_under : (f : Format) (n : ℕ) → Short f n → T (finite (round f false n (2 ^ low f))) → n < overflow f
short_under f n h t = subst (λ (x : ℕ). x < overflow f) (grid_short f n h) (round_under f n (2 ^ low f) t)

pub short_under_signed : (f : Format) (s : Bool) (n : ℕ) → Short f n → T (finite (round f s n (2 ^ low f))) → n < overflow f
short_under_signed f s n h t = short_under f n h (subst T (finite_sign f s n (2 ^ low f)) t)

-- ---- a value that fits, in units
-- what has a value of n units is n units in size
pub units_is : (f : Format) (x : Float) (s : Bool) (n : ℕ) → HasValue x s n (2 ^ low f) → units_of f x ≡ n
units_is f nan s n p = absurd p
units_is f (inf t) s n p = absurd p
units_is f (fin t m e) s n p = ap (λ (x : ℕ). x / down e) p.1 ∙ mul-div_cancel n (down_pos e)

pub record Held (f : Format) (x : Float) (s : Bool) (n : ℕ) : Type 0 where
  pub value : HasValue x s n (2 ^ low f)
  pub under : n < overflow f
  pub short : Short f n

-- from a number n of units with n * down e = m * up e * 2 ^ low
held_intro : (f : Format) (s : Bool) (m : ℕ) (e : ℤ) (n j : ℕ) → m < 2 ^ prec f → m * up e < 2 ^ suc (emax f) * down e → n ≡ m * 2 ^ j → m * up e * 2 ^ low f ≡ n * down e → Held f (fin s m e) s n
held_intro f s m e n j a c i v = record {
  value = (refl, v);
  under =
      lt_of_mul-lt-mul_right (down e)
      (subst (λ (x : ℕ). x < overflow f * down e) v
      (subst (λ (x : ℕ). m * up e * 2 ^ low f < x)
      (mul_right_comm (2 ^ suc (emax f)) (down e) (2 ^ low f) ∙ ap (λ (x : ℕ). x * down e) (mul_comm (2 ^ suc (emax f)) (2 ^ low f) ∙ sym (pow-add 2 (low f) (suc (emax f)))))
      (mul-lt-mul_of_pos_right c (pow_pos (low f)))));
  short = record { digits = m; shift = j; small = a; is = i };
}

-- 2 ^ a ≤ 2 ^ b only where a ≤ b
pow_back : (a b : ℕ) → 2 ^ a ≤ 2 ^ b → a ≤ b
pow_back a b h = le_of_not_gt a b (λ (g : b < a). not-le_of_lt (pow-lt g) h)
  where
    le_of_not_gt : (a b : ℕ) → (b < a → ⊥) → a ≤ b
    le_of_not_gt a b k = go (leb a b) (leb→le a b) (nleb→lt a b)
      where
        go : (t : Bool) → (T t → a ≤ b) → (T (not t) → b < a) → a ≤ b
        go true x y = x tt
        go false x y = absurd (k (y tt))

held_at : (f : Format) (s : Bool) (m : ℕ) (e : ℤ) → m < 2 ^ prec f → down e ≤ 2 ^ low f → m * up e < 2 ^ suc (emax f) * down e → (n : ℕ) × Held f (fin s m e) s n
held_at f s m (pos k) a b c = (
  m * 2 ^ (k + low f),
  held_intro f s m (pos k) (m * 2 ^ (k + low f)) (k + low f) a c refl
      (mul_assoc m (2 ^ k) (2 ^ low f) ∙ ap (λ (x : ℕ). m * x) (sym (pow-add 2 k (low f))) ∙ sym (mul-one (m * 2 ^ (k + low f)))),
)
held_at f s m (negsuc k) a b c =
    let j = low f - suc k in (
      m * 2 ^ j,
      held_intro f s m (negsuc k) (m * 2 ^ j) j a c refl
          (ap (λ (x : ℕ). x * 2 ^ low f) (mul-one m)
          ∙ ap (λ (x : ℕ). m * x) (ap (λ (x : ℕ). 2 ^ x) (sym (back (low f) (suc k) (pow_back (suc k) (low f) b))) ∙ pow-add 2 j (suc k))
          ∙ sym (mul_assoc m (2 ^ j) (2 ^ suc k))),
    )

pub zero_held : (f : Format) (s : Bool) (e : ℤ) → Held f (fin s zero e) s 0
zero_held f s e = record {
  value = (refl, ap (λ (x : ℕ). x * 2 ^ low f) (zero-mul (up e)) ∙ zero-mul (2 ^ low f) ∙ sym (zero-mul (down e)));
  under = pow_pos (low f + suc (emax f));
  short = record { digits = 0; shift = 0; small = pow_pos (prec f); is = refl };
}

held_any : (f : Format) (s : Bool) (m : ℕ) (e : ℤ) → T (fits f (fin s m e)) → (n : ℕ) × Held f (fin s m e) s n
unfolding fits
held_any f s zero e t = (0, zero_held f s e)
held_any f s (suc m) e t =
    let a : Bool = eqb (suc m % 2) 1 in
    let b : Bool = ltb (suc m) (2 ^ prec f) in
    let c : Bool = leb (down e) (2 ^ low f) in
    let d : Bool = ltb (suc m * up e) (2 ^ suc (emax f) * down e) in
    held_at f s (suc m) e (ltb→lt (suc m) (2 ^ prec f) (and_r a b (and_l (a && b) c (and_l (a && b && c) d t)))) (leb→le (down e) (2 ^ low f) (and_r (a && b) c (and_l (a && b && c) d t)))
    (ltb→lt (suc m * up e) (2 ^ suc (emax f) * down e) (and_r (a && b && c) d t))

-- a value that fits is its size in units, exactly
pub held : (f : Format) (s : Bool) (m : ℕ) (e : ℤ) → T (fits f (fin s m e)) → Held f (fin s m e) s (units_of f (fin s m e))
held f s m e t =
    let k = held_any f s m e t in
    subst (λ (n : ℕ). Held f (fin s m e) s n) (sym (units_is f (fin s m e) s k.0 k.1.value)) k.1

-- what fits and has a value of ±n units is held as that
pub held_as : (f : Format) (x : Float) (s : Bool) (n : ℕ) → T (fits f x) → HasValue x s n (2 ^ low f) → Held f x s n
held_as f nan s n t v = absurd v
held_as f (inf r) s n t v = absurd v
held_as f (fin r m e) s n t v = let k = held f r m e t in record { value = v; under = subst (λ (z : ℕ). z < overflow f) (units_is f (fin r m e) s n v) k.under; short = subst (Short f) (units_is f (fin r m e) s n v) k.short }

pub held_neg : (f : Format) (x : Float) (s : Bool) (n : ℕ) → Held f x s n → Held f (neg x) (not s) n
held_neg f x s n h = record { value = neg_units x s n (2 ^ low f) h.value; under = h.under; short = h.short }

-- ---- twice a short number
pub short_twice : (f : Format) (n : ℕ) → Short f n → Short f (n + n)
short_twice f n h = record {
  digits = h.digits;
  shift = suc h.shift;
  small = h.small;
  is = ap (λ (x : ℕ). x + x) h.is ∙ sym (mul-add h.digits (2 ^ h.shift) (2 ^ h.shift)) ∙ ap (λ (x : ℕ). h.digits * x) (sym (two-pow-succ h.shift));
}

-- ---- a value with itself added to it: twice the value exactly, where that is finite
module _ (f : Format) (x : Float) (s : Bool) (n : ℕ) (h : Held f x s n) where
  sum_is : add f x x ≡ round f s (n + n) (2 ^ low f)
  unfolding sum
  sum_is = add_units f x x s s n n (2 ^ low f) (pow_pos (low f)) h.value h.value ∙ alike s
    where
      alike : (t : Bool) → sum f t n t n (2 ^ low f) ≡ round f t (n + n) (2 ^ low f)
      alike true = refl
      alike false = refl

  pub twice_under : T (finite (add f x x)) → n + n < overflow f
  twice_under t = short_under_signed f s (n + n) (short_twice f n h.short) (subst (λ (z : Float). T (finite z)) sum_is t)

  pub twice_held : n + n < overflow f → Held f (add f x x) s (n + n)
  twice_held u = record {
    value = subst (λ (z : Float). HasValue z s (n + n) (2 ^ low f)) (sym sum_is) (round_short f s (n + n) (short_twice f n h.short) u);
    under = u;
    short = short_twice f n h.short;
  }

-- ---- a remainder is short: it is below its divisor, and on the coarser of the two grids or a finer one that the dividend is on
-- n % p and p on one grid, with n % p short there
pub record Gridded (f : Format) (n p : ℕ) : Type 0 where
  pub left : ℕ
  pub whole : ℕ
  pub at : ℕ
  pub small : left < 2 ^ prec f
  pub left_is : n % p ≡ left * 2 ^ at
  pub whole_is : p ≡ whole * 2 ^ at

regrid : (q a j : ℕ) → j ≤ a → q * 2 ^ a ≡ q * 2 ^ (a - j) * 2 ^ j
regrid q a j h = ap (λ (x : ℕ). q * x) (ap (λ (x : ℕ). 2 ^ x) (sym (back a j h)) ∙ pow-add 2 (a - j) j) ∙ sym (mul_assoc q (2 ^ (a - j)) (2 ^ j))

factor_pos : (p x l : ℕ) → 0 < p → p ≡ x * l → 0 < x
factor_pos p x l P e = lt_of_mul-lt-mul_right l (subst (λ (z : ℕ). z < x * l) (sym (zero-mul l)) (subst (λ (z : ℕ). 0 < z) e P))

pub gridded : (f : Format) (n p : ℕ) → 0 < p → Short f n → Short f p → Gridded f n p
gridded f n p P h k = go (leb h.shift k.shift) (leb→le h.shift k.shift) (nleb→lt h.shift k.shift)
  where
    go : (t : Bool) → (T t → h.shift ≤ k.shift) → (T (not t) → k.shift < h.shift) → Gridded f n p
    go true a b =
        let j = h.shift in
        let w = k.digits * 2 ^ (k.shift - j) in
        let e : p ≡ w * 2 ^ j = k.is ∙ regrid k.digits k.shift j (a tt) in
        record {
          left = h.digits % w;
          whole = w;
          at = j;
          small = lt_of_le_of_lt (mod-le h.digits w) h.small;
          left_is = ap (λ (x : ℕ). x % p) h.is ∙ ap (λ (x : ℕ). h.digits * 2 ^ j % x) e ∙ scale_mod h.digits w (2 ^ j) (factor_pos p w (2 ^ j) P e) (pow_pos j);
          whole_is = e;
        }
    go false a b =
        let j = k.shift in
        let v = h.digits * 2 ^ (h.shift - j) in
        let e : n ≡ v * 2 ^ j = h.is ∙ regrid h.digits h.shift j (le_of_lt (b tt)) in
        let Q : 0 < k.digits = factor_pos p k.digits (2 ^ j) P k.is in
        record {
          left = v % k.digits;
          whole = k.digits;
          at = j;
          small = lt_of_lt_of_le (mod-lt v Q) (le_of_lt k.small);
          left_is = ap (λ (x : ℕ). x % p) e ∙ ap (λ (x : ℕ). v * 2 ^ j % x) k.is ∙ scale_mod v k.digits (2 ^ j) Q (pow_pos j);
          whole_is = k.is;
        }

pub short_rem : (f : Format) (n p : ℕ) → Gridded f n p → Short f (n % p)
short_rem f n p g = record { digits = g.left; shift = g.at; small = g.small; is = g.left_is }

-- Sterbenz: what is left of p, where it is no more than the remainder
rest_le : (p r : ℕ) → p ≤ r + r → p - r ≤ r
rest_le p r h = omega arith

pub short_rest : (f : Format) (n p : ℕ) → Gridded f n p → p ≤ n % p + n % p → Short f (p - n % p)
short_rest f n p g h =
    let l = 2 ^ g.at in
    let e : p - n % p ≡ (g.whole - g.left) * l =
    ap (λ (x : ℕ). x - n % p) g.whole_is ∙ ap (λ (x : ℕ). g.whole * l - x) g.left_is
    ∙ ap (λ (x : ℕ). x - g.left * l) (mul_comm g.whole l) ∙ ap (λ (x : ℕ). l * g.whole - x) (mul_comm g.left l) ∙ sym (mul-sub l g.whole g.left) ∙ mul_comm l (g.whole - g.left) in
    let le : (g.whole - g.left) * l ≤ g.left * l = subst (λ (x : ℕ). x ≤ g.left * l) e (subst (λ (x : ℕ). p - n % p ≤ x) g.left_is (rest_le p (n % p) h)) in
    record {
      digits = g.whole - g.left;
      shift = g.at;
      small = lt_of_le_of_lt (le_of_mul-le-mul_right le (pow_pos g.at)) g.small;
      is = e;
    }

-- ---- the integer that a value is
-- what has a value of ±n units is that integer
pub scaled_is : (f : Format) (x : Float) (s : Bool) (n : ℕ) → HasValue x s n (2 ^ low f) → scaled f x ≡ signed s n
scaled_is f nan s n p = absurd p
scaled_is f (inf t) s n p = absurd p
scaled_is f (fin t m e) s n p = ap (λ (z : Bool). signed z (units_of f (fin t m e))) p.0 ∙ ap (λ (z : ℕ). signed s z) (units_is f (fin t m e) s n p)

-- a value that fits is its own number of units, with nothing lost: so `scaled f x` is x times 2 ^ low f
pub units_exact : (f : Format) (x : Float) → T (fits f x) → T (finite x) → HasValue x (minus? x) (units_of f x) (2 ^ low f)
units_exact f nan t n = absurd n
units_exact f (inf s) t n = absurd n
units_exact f (fin s m e) t n = (held f s m e t).value

-- a value has one sign and one size
pub one_value : (f : Format) (x : Float) (s t : Bool) (n k : ℕ) → HasValue x s n (2 ^ low f) → HasValue x t k (2 ^ low f) → (s ≡ t) × (n ≡ k)
one_value f nan s t n k p q = absurd p
one_value f (inf r) s t n k p q = absurd p
one_value f (fin r m e) s t n k p q = (sym p.0 ∙ q.0, sym (units_is f (fin r m e) s n p) ∙ units_is f (fin r m e) t k q)

-- ---- a value that fits is known by its sign and its units, from which alone its bits are made
abbrev bits_at : Format → Bool → ℕ → ℕ
bits_at f s n = cond s (top f) 0 + (size n - prec f) * hid f + n / 2 ^ (size n - prec f)

bits_of : (f : Format) (x : Float) (s : Bool) (n : ℕ) → HasValue x s n (2 ^ low f) → to_bits f x ≡ bits_at f s n
unfolding to_bits
bits_of f nan s n p = absurd p
bits_of f (inf t) s n p = absurd p
bits_of f (fin t m e) s n p = ap (λ (z : ℕ). bits_at f t z) (units_is f (fin t m e) s n p) ∙ ap (λ (z : Bool). bits_at f z n) p.0

pub same_value : (f : Format) (x y : Float) (s : Bool) (n : ℕ) → T (fits f x) → T (fits f y) → HasValue x s n (2 ^ low f) → HasValue y s n (2 ^ low f) → x ≡ y
same_value f x y s n fx fy p q = sym (of_bits-to_bits f x fx) ∙ ap (λ (z : ℕ). of_bits f z) (bits_of f x s n p ∙ sym (bits_of f y s n q)) ∙ of_bits-to_bits f y fy
