-- The remainder of d by p, reckoned by doubling p: what is left by 2p is brought below p by taking p off once, and that is exact. In any format. Assumes nothing.
use mathlib.Core.Path.{◌≡◌, refl, sym, ap, ◌∙◌, subst}
use mathlib.Core.Bool.{Bool, true, false, not, cond, true≢false, false≢true}
use Prim.Native.Nat.{ℕ, ◌+◌, ◌-◌, ◌*◌, ◌/◌, ◌%◌, ◌^◌, ◌≤◌, ◌<◌}
use native.Mathlib.Nat.{mod-lt, mod-le, mod-eq_of_lt, mod-add-div', mul-add-mod_self_right, add-mod_right, lt_of_le_of_lt, zero-mul, eq_of_mul-eq-mul_right, mul-pos, mul_assoc, zero-mod}
use native.Mathlib.Omega.{arith}
use borrow.Author.Tests.{le-ltb, lt-ltb, eq-eqb}
use lib.IntN.{pos}
use lib.Dec.{T, ltb, ltb→lt, nltb→le}
use lib.Pow.{pow_pos}
use lib.Ieee.Fits.{up_pos}
use lib.Ieee.{Float, nan, inf, fin, Format, low, up, down, below, neg, sum, round, add, sub, rem, lt, fits}
use lib.Ieee.Fits.{neg-fits, rem-fits}
use lib.Ieee.Exact.{HasValue}
use lib.Ieee.Scale.{finite}
use Rattle.floats.specs.Numbers.{plus_zero}
use Rattle.floats.specs.Units.{units_of, minus?}
use Rattle.floats.proofs.Units.{lt_units, neg_units, sub_units, rem_units, finite_value}
use Rattle.floats.proofs.Grid.{Held, units_is, zero_held, held, held_neg, twice_held, twice_under, round_short, gridded, short_rem, same_value}

-- ---- whole numbers
one_off : (U W : ℕ) → W ≤ U → U < W + W → U % W ≡ U - W
one_off U W h k =
    let e : U - W + W ≡ U = omega arith in
    let l : U - W < W = omega arith in
    ap (λ (x : ℕ). x % W) (sym e) ∙ add-mod_right (U - W) W ∙ mod-eq_of_lt l

twice_mod : (U W : ℕ) → U % (W + W) % W ≡ U % W
twice_mod U W =
    let q = U / (W + W) in
    let V = U % (W + W) in
    let e : (q + q) * W + V ≡ U = omega (arith, mod-add-div' U (W + W)) in
    sym (mul-add-mod_self_right (q + q) W V) ∙ ap (λ (x : ℕ). x % W) e

taken_off : (f : Format) (U W l : ℕ) → W ≤ U → sum f false U true W l ≡ round f false (U - W) l
unfolding sum
taken_off f U W l h = ap (λ (b : Bool). cond b (round f true (W - U) l) (round f false (U - W) l)) (le-ltb U W h)

twice_pos : (W : ℕ) → 0 < W → 0 < W + W
twice_pos W P = omega arith

-- ---- d = ±D units by t = W units, above 0
module _ (f : Format) (d t : Float) (s : Bool) (D W : ℕ) (hd : Held f d s D) (ht : Held f t false W) (P : 0 < W) where
  rem_is : rem f d t ≡ round f s (D % W) (2 ^ low f)
  rem_is = rem_units f d t s false D W (2 ^ low f) (pow_pos (low f)) P hd.value ht.value

  rem_value : HasValue (rem f d t) s (D % W) (2 ^ low f)
  rem_value =
      subst (λ (x : Float). HasValue x s (D % W) (2 ^ low f)) (sym rem_is)
      (round_short f s (D % W) (short_rem f D W (gridded f D W P hd.short ht.short)) (lt_of_le_of_lt (mod-le D W) hd.under))

-- ---- both above 0
module _ (f : Format) (r t : Float) (U W : ℕ) (hr : Held f r false U) (ht : Held f t false W) (P : 0 < W) where
  less_is : lt r t ≡ ltb U W
  less_is = lt_units r t false false U W (2 ^ low f) (pow_pos (low f)) hr.value ht.value

  less : lt r t ≡ true → U < W
  less e = ltb→lt U W (subst T (sym (sym less_is ∙ e)) tt)

  no_less : lt r t ≡ false → W ≤ U
  no_less e = nltb→le U W (subst (λ (b : Bool). T (not b)) (sym (sym less_is ∙ e)) tt)

  -- r below t is its own remainder
  below_it : T (fits f r) → lt r t ≡ true → r ≡ rem f r t
  below_it fr e = same_value f r (rem f r t) false U fr (rem-fits f r t fr) hr.value (subst (λ (x : ℕ). HasValue (rem f r t) false x (2 ^ low f)) (mod-eq_of_lt (less e)) (rem_value f r t false U W hr ht P))

  off_is : W ≤ U → sub f r t ≡ round f false (U - W) (2 ^ low f)
  off_is h = sub_units f r t false false U W (2 ^ low f) (pow_pos (low f)) hr.value ht.value ∙ taken_off f U W (2 ^ low f) h

  -- where twice t is beyond the format, r is below it
  one_at_most : finite (add f t t) ≡ false → U < W + W
  one_at_most n = go (ltb U (W + W)) (ltb→lt U (W + W)) (nltb→le U (W + W))
    where
      go : (b : Bool) → (T b → U < W + W) → (T (not b) → W + W ≤ U) → U < W + W
      go true k m = k tt
      go false k m = absurd (subst T n (finite_value (add f t t) false (W + W) (2 ^ low f) (twice_held f t false W ht (lt_of_le_of_lt (m tt) hr.under)).value))

  beyond : lt r t ≡ false → finite (add f t t) ≡ false → sub f r t ≡ rem f r t
  beyond e n = off_is (no_less e) ∙ ap (λ (x : ℕ). round f false x (2 ^ low f)) (sym (one_off U W (no_less e) (one_at_most n))) ∙ sym (rem_is f r t false U W hr ht P)

  -- what is left by twice t
  module _ (n : finite (add f t t) ≡ true) (z : Float) (is : z ≡ rem f r (add f t t)) where
    twice : Held f (add f t t) false (W + W)
    twice = twice_held f t false W ht (twice_under f t false W ht (subst T (sym n) tt))

    left_value : HasValue z false (U % (W + W)) (2 ^ low f)
    left_value = subst (λ (x : Float). HasValue x false (U % (W + W)) (2 ^ low f)) (sym is) (rem_value f r (add f t t) false U (W + W) hr twice (twice_pos W P))

    left_is : lt z t ≡ ltb (U % (W + W)) W
    left_is = lt_units z t false false (U % (W + W)) W (2 ^ low f) (pow_pos (low f)) left_value ht.value

    stays : lt z t ≡ true → z ≡ rem f r t
    stays e =
        let l : U % (W + W) < W = ltb→lt (U % (W + W)) W (subst T (sym (sym left_is ∙ e)) tt) in
        is ∙ rem_is f r (add f t t) false U (W + W) hr twice (twice_pos W P)
        ∙ ap (λ (x : ℕ). round f false x (2 ^ low f)) (sym (mod-eq_of_lt l) ∙ twice_mod U W)
        ∙ sym (rem_is f r t false U W hr ht P)

    off : lt z t ≡ false → sub f z t ≡ rem f r t
    off e =
        let V = U % (W + W) in
        let h : W ≤ V = nltb→le V W (subst (λ (b : Bool). T (not b)) (sym (sym left_is ∙ e)) tt) in
        sub_units f z t false false V W (2 ^ low f) (pow_pos (low f)) left_value ht.value ∙ taken_off f V W (2 ^ low f) h
        ∙ ap (λ (x : ℕ). round f false x (2 ^ low f)) (sym (one_off V W h (mod-lt U (twice_pos W P))) ∙ twice_mod U W)
        ∙ sym (rem_is f r t false U W hr ht P)

-- ---- as the code has them: what fits, is finite and above 0 has so many units
pub record Above (f : Format) (x : Float) : Type 0 where
  pub holds : fits f x ≡ true
  pub number : finite x ≡ true
  pub above : lt plus_zero x ≡ true

yes : {b : Bool} → b ≡ true → T b
yes e = subst T (sym e) tt

units_held : (f : Format) (x : Float) → T (fits f x) → T (finite x) → Held f x (minus? x) (units_of f x)
units_held f nan h n = absurd n
units_held f (inf s) h n = absurd n
units_held f (fin s m e) h n = held f s m e h

positive : (s : Bool) (n : ℕ) → below false 0 s n ≡ true → (s ≡ false) × (0 < n)
positive false n e = (refl, ltb→lt 0 n (subst T (sym e) tt))
positive true n e = absurd (false≢true e)

module _ (f : Format) (x : Float) (a : Above f x) where
  own : Held f x (minus? x) (units_of f x)
  own = units_held f x (yes a.holds) (yes a.number)

  signs : (minus? x ≡ false) × (0 < units_of f x)
  signs = positive (minus? x) (units_of f x) (sym (lt_units plus_zero x false (minus? x) 0 (units_of f x) (2 ^ low f) (pow_pos (low f)) (zero_held f false (pos 0)).value own.value) ∙ a.above)

  sized : Held f x false (units_of f x)
  sized = subst (λ (b : Bool). Held f x b (units_of f x)) signs.0 own

module _ (f : Format) (r t : Float) (a : Above f r) (b : Above f t) where
  pub rest_itself : lt r t ≡ true → r ≡ rem f r t
  rest_itself = below_it f r t (units_of f r) (units_of f t) (sized f r a) (sized f t b) (signs f t b).1 (yes a.holds)

  pub rest_beyond : lt r t ≡ false → finite (add f t t) ≡ false → sub f r t ≡ rem f r t
  rest_beyond = beyond f r t (units_of f r) (units_of f t) (sized f r a) (sized f t b) (signs f t b).1

  pub rest_stays : finite (add f t t) ≡ true → (z : Float) → z ≡ rem f r (add f t t) → lt z t ≡ true → z ≡ rem f r t
  rest_stays = stays f r t (units_of f r) (units_of f t) (sized f r a) (sized f t b) (signs f t b).1

  pub rest_off : finite (add f t t) ≡ true → (z : Float) → z ≡ rem f r (add f t t) → lt z t ≡ false → sub f z t ≡ rem f r t
  rest_off = off f r t (units_of f r) (units_of f t) (sized f r a) (sized f t b) (signs f t b).1

  -- the measure: how far r is above t, and one more
  pub rest_nearer : lt r t ≡ false → finite (add f t t) ≡ true → units_of f r + 1 - units_of f (add f t t) < units_of f r + 1 - units_of f t
  rest_nearer e n =
      let U = units_of f r in
      let W = units_of f t in
      let P : 0 < W = (signs f t b).1 in
      let k : W ≤ U = no_less f r t U W (sized f r a) (sized f t b) P e in
      let i : units_of f (add f t t) ≡ W + W = units_is f (add f t t) false (W + W) (twice f r t U W (sized f r a) (sized f t b) P n (rem f r (add f t t)) refl).value in omega arith

  pub twice_above : finite (add f t t) ≡ true → lt plus_zero (add f t t) ≡ true
  twice_above n =
      let W = units_of f t in
      let P : 0 < W = (signs f t b).1 in
      lt_units plus_zero (add f t t) false false 0 (W + W) (2 ^ low f) (pow_pos (low f)) (zero_held f false (pos 0)).value (twice f r t (units_of f r) W (sized f r a) (sized f t b) P n (rem f r (add f t t)) refl).value
      ∙ lt-ltb 0 (W + W) (twice_pos W P)

-- ---- any d and p
-- the divisor's sign doesn't tell
pub rem_of_size : (f : Format) (x y : Float) → rem f x (neg y) ≡ rem f x y
unfolding rem neg
rem_of_size f nan y = refl
rem_of_size f (inf s) y = refl
rem_of_size f (fin s m e) nan = refl
rem_of_size f (fin s m e) (inf t) = refl
rem_of_size f (fin s m e) (fin t n g) = refl

pub rem_of_no_number : (f : Format) (x y : Float) → finite x ≡ false → nan ≡ rem f x y
unfolding rem
rem_of_no_number f nan y n = refl
rem_of_no_number f (inf s) y n = refl
rem_of_no_number f (fin s m e) y n = absurd (true≢false n)

pub rem_by_infinity : (f : Format) (x y : Float) → finite x ≡ true → finite y ≡ false → lt plus_zero y ≡ true → x ≡ rem f x y
unfolding rem lt
rem_by_infinity f (fin s m e) (inf t) n k p = refl
rem_by_infinity f nan y n k p = absurd (false≢true n)
rem_by_infinity f (inf s) y n k p = absurd (false≢true n)
rem_by_infinity f (fin s m e) nan n k p = absurd (false≢true p)
rem_by_infinity f (fin s m e) (fin t i g) n k p = absurd (true≢false k)

-- a divisor that is neither above nor below 0 is a zero or NaN
none_left : (f : Format) (x y : Float) (s : Bool) → HasValue y s 0 (2 ^ low f) → T (finite x) → nan ≡ rem f x y
unfolding rem
none_left f nan y s v n = absurd n
none_left f (inf t) y s v n = absurd n
none_left f (fin t m e) nan s v n = absurd v
none_left f (fin t m e) (inf r) s v n = absurd v
none_left f (fin t m e) (fin r i g) s v n =
    let K : 0 < up g * 2 ^ low f = mul-pos (up_pos g) (pow_pos (low f)) in
    let z : i * (up g * 2 ^ low f) ≡ 0 * (up g * 2 ^ low f) = sym (mul_assoc i (up g) (2 ^ low f)) ∙ v.1 ∙ zero-mul (down g) ∙ sym (zero-mul (up g * 2 ^ low f)) in
    let q : i ≡ 0 = eq_of_mul-eq-mul_right (up g * 2 ^ low f) K i 0 z in
    sym (ap (λ (b : Bool). cond b nan (round f t (m * up e * down g % (i * up g * down e)) (down e * down g))) (eq-eqb i 0 q))

zero_size : (s : Bool) (n : ℕ) → below false 0 s n ≡ false → below s n false 0 ≡ false → n ≡ 0
zero_size false n a b = let h : n ≤ 0 = nltb→le 0 n (subst (λ (x : Bool). T (not x)) (sym a) tt) in omega arith
zero_size true n a b = let h : n + 0 ≤ 0 = nltb→le 0 (n + 0) (subst (λ (x : Bool). T (not x)) (sym b) tt) in omega arith

pub rem_by_none : (f : Format) (x y : Float) → fits f y ≡ true → finite x ≡ true → lt plus_zero y ≡ false → lt y plus_zero ≡ false → nan ≡ rem f x y
unfolding rem lt
rem_by_none f nan y h n a b = absurd (false≢true n)
rem_by_none f (inf s) y h n a b = absurd (false≢true n)
rem_by_none f (fin s m e) nan h n a b = refl
rem_by_none f (fin s m e) (inf false) h n a b = absurd (true≢false a)
rem_by_none f (fin s m e) (inf true) h n a b = absurd (true≢false b)
rem_by_none f (fin s m e) (fin t i g) h n a b =
    let y = fin t i g in
    let k = units_held f y (yes h) tt in
    let z = (zero_held f false (pos 0)).value in
    none_left f (fin s m e) y t
    (subst (λ (j : ℕ). HasValue y t j (2 ^ low f))
    (zero_size t (units_of f y) (sym (lt_units plus_zero y false t 0 (units_of f y) (2 ^ low f) (pow_pos (low f)) z k.value) ∙ a) (sym (lt_units y plus_zero t false (units_of f y) 0 (2 ^ low f) (pow_pos (low f)) k.value z) ∙ b))
    k.value)
    tt

module _ (f : Format) (d t : Float) (holds : fits f d ≡ true) (nd : finite d ≡ true) (b : Above f t) where
  fd : T (fits f d)
  fd = yes holds

  of_d : Held f d (minus? d) (units_of f d)
  of_d = units_held f d fd (subst T (sym nd) tt)

  left : HasValue (rem f d t) (minus? d) (units_of f d % units_of f t) (2 ^ low f)
  left = rem_value f d t (minus? d) (units_of f d) (units_of f t) of_d (sized f t b) (signs f t b).1

  -- of a zero it is that zero
  pub rem_of_zero : lt d plus_zero ≡ false → lt plus_zero d ≡ false → d ≡ rem f d t
  rem_of_zero l a =
      let z = (zero_held f false (pos 0)).value in
      let D = units_of f d in
      let s = minus? d in
      let e : D ≡ 0 = zero_size s D (sym (lt_units plus_zero d false s 0 D (2 ^ low f) (pow_pos (low f)) z of_d.value) ∙ a) (sym (lt_units d plus_zero s false D 0 (2 ^ low f) (pow_pos (low f)) of_d.value z) ∙ l) in
      same_value f d (rem f d t) s 0 fd (rem-fits f d t fd) (subst (λ (x : ℕ). HasValue d s x (2 ^ low f)) e of_d.value)
      (subst (λ (x : ℕ). HasValue (rem f d t) s x (2 ^ low f)) (ap (λ (x : ℕ). x % units_of f t) e ∙ zero-mod (units_of f t)) left)

  -- of −d it is the negative
  pub rem_of_negative : (z : Float) → z ≡ rem f (neg d) t → neg z ≡ rem f d t
  rem_of_negative z e =
      let s = minus? d in
      let D = units_of f d in
      let v = rem_value f (neg d) t (not s) D (units_of f t) (held_neg f d s D of_d) (sized f t b) (signs f t b).1 in
      ap neg e
      ∙ same_value f (neg (rem f (neg d) t)) (rem f d t) s (D % units_of f t) (neg-fits f (rem f (neg d) t) (rem-fits f (neg d) t (neg-fits f d fd))) (rem-fits f d t fd)
      (subst (λ (x : Bool). HasValue (neg (rem f (neg d) t)) x (D % units_of f t) (2 ^ low f)) (twice_not s) (neg_units (rem f (neg d) t) (not s) (D % units_of f t) (2 ^ low f) v)) left
    where
      twice_not : (s : Bool) → not (not s) ≡ s
      twice_not true = refl
      twice_not false = refl

-- ---- what is below 0, negated
below_zero : (s : Bool) (n : ℕ) → below s n false 0 ≡ true → (s ≡ true) × (0 < n)
below_zero true n e = let h : 0 < n + 0 = ltb→lt 0 (n + 0) (subst T (sym e) tt) in (refl, omega arith)
below_zero false n e = let h : n < 0 = ltb→lt n 0 (subst T (sym e) tt) in absurd (omega arith)

module _ (f : Format) (x : Float) (h : fits f x ≡ true) (n : finite x ≡ true) (e : lt x plus_zero ≡ true) where
  sizes : (minus? x ≡ true) × (0 < units_of f x)
  sizes =
      let k = units_held f x (yes h) (yes n) in
      below_zero (minus? x) (units_of f x) (sym (lt_units x plus_zero (minus? x) false (units_of f x) 0 (2 ^ low f) (pow_pos (low f)) k.value (zero_held f false (pos 0)).value) ∙ e)

  turned : HasValue (neg x) false (units_of f x) (2 ^ low f)
  turned =
      let k = units_held f x (yes h) (yes n) in
      subst (λ (b : Bool). HasValue (neg x) (not b) (units_of f x) (2 ^ low f)) sizes.0 (neg_units x (minus? x) (units_of f x) (2 ^ low f) k.value)

  pub negative_above : lt plus_zero (neg x) ≡ true
  negative_above = lt_units plus_zero (neg x) false false 0 (units_of f x) (2 ^ low f) (pow_pos (low f)) (zero_held f false (pos 0)).value turned ∙ lt-ltb 0 (units_of f x) sizes.1

  finite_not_below : lt (neg x) plus_zero ≡ false
  finite_not_below = lt_units (neg x) plus_zero false false (units_of f x) 0 (2 ^ low f) (pow_pos (low f)) turned (zero_held f false (pos 0)).value ∙ le-ltb (units_of f x) 0 (omega arith)

pub negative_not_below : (f : Format) (x : Float) → fits f x ≡ true → lt x plus_zero ≡ true → lt (neg x) plus_zero ≡ false
unfolding lt neg
negative_not_below f nan h e = absurd (false≢true e)
negative_not_below f (inf true) h e = refl
negative_not_below f (inf false) h e = absurd (false≢true e)
negative_not_below f (fin s m g) h e = finite_not_below f (fin s m g) h refl e
