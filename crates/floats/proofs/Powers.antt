-- A value times 2 ^ k: what it is worth, that a format holds it where it is small enough, and that x + x is x times 2 where that is finite. Assumes nothing.
use mathlib.Core.Path.{◌≡◌, refl, sym, ap, ◌∙◌, subst}
use mathlib.Core.Bool.{Bool, true, false, not, cond, ◌&&◌}
use Prim.Native.Nat.{ℕ, zero, suc, ◌+◌, ◌-◌, ◌*◌, ◌%◌, ◌^◌, ◌≤◌, ◌<◌}
use native.Mathlib.Nat.{le_refl, le_trans, zero-mul, mul-one, one-mul, mul_comm, mul_assoc, eq_of_mul-eq-mul_right, lt_of_mul-lt-mul_right, mul-lt-mul_of_pos_right}
use native.Mathlib.Omega.{arith}
use lib.IntN.{ℤ, pos, negsuc, sub_ℕ, ◌+ℤ◌}
use lib.Dec.{T, leb, ltb, eqb, ltb→lt, nltb→le, le→leb, leb→le, lt→ltb}
use lib.Pow.{pow-add, pow_pos, pow_mono}
use lib.Ieee.{Float, nan, inf, fin, Format, prec, emax, low, up, down, below, add, lt, fits}
use lib.Ieee.Fits.{down_pos, and_l, and_r, and_i, add-fits}
use lib.Ieee.Exact.{HasValue}
use lib.Ieee.Scale.{finite, overflow}
use Rattle.floats.specs.Numbers.{plus_zero}
use Rattle.floats.specs.Units.{units_of}
use Rattle.floats.specs.Powers.{moved, times}
use Rattle.floats.proofs.Units.{same_bool, lt_units}
use Rattle.floats.proofs.Grid.{Held, zero_held, held, held_as, twice_under, twice_held, same_value}

-- ---- 2 ^ (a + b) is 2 ^ a * 2 ^ b, as fractions
sub_val : (a b : ℕ) → up (sub_ℕ a b) * 2 ^ b ≡ 2 ^ a * down (sub_ℕ a b)
sub_val a b = go (ltb a b) (ltb→lt a b) (nltb→le a b)
  where
    up_to : a < b → suc (b - suc a) + a ≡ b
    up_to h = omega arith

    from : b ≤ a → a - b + b ≡ a
    from h = omega arith

    go : (t : Bool) → (T t → a < b) → (T (not t) → b ≤ a) → up (cond t (negsuc (b - suc a)) (pos (a - b))) * 2 ^ b ≡ 2 ^ a * down (cond t (negsuc (b - suc a)) (pos (a - b)))
    go true h k = one-mul (2 ^ b) ∙ ap (λ (x : ℕ). 2 ^ x) (sym (up_to (h tt))) ∙ pow-add 2 (suc (b - suc a)) a ∙ mul_comm (2 ^ suc (b - suc a)) (2 ^ a)
    go false h k = sym (pow-add 2 (a - b) b) ∙ ap (λ (x : ℕ). 2 ^ x) (from (k tt)) ∙ sym (mul-one (2 ^ a))

pub up_add : (a b : ℤ) → up (a +ℤ b) * (down a * down b) ≡ up a * up b * down (a +ℤ b)
up_add (pos a) (pos b) = ap (λ (x : ℕ). x * (1 * 1)) (pow-add 2 a b)
up_add (pos a) (negsuc b) = ap (λ (x : ℕ). up (sub_ℕ a (suc b)) * x) (one-mul (2 ^ suc b)) ∙ sub_val a (suc b) ∙ ap (λ (x : ℕ). x * down (sub_ℕ a (suc b))) (sym (mul-one (2 ^ a)))
up_add (negsuc a) (pos b) = ap (λ (x : ℕ). up (sub_ℕ b (suc a)) * x) (mul-one (2 ^ suc a)) ∙ sub_val b (suc a) ∙ ap (λ (x : ℕ). x * down (sub_ℕ b (suc a))) (sym (one-mul (2 ^ b)))
up_add (negsuc a) (negsuc b) = ap (λ (x : ℕ). 1 * x) (sym (pow-add 2 (suc a) (suc b)) ∙ ap (λ (x : ℕ). 2 ^ x) (both a b))
  where
    both : (a b : ℕ) → suc a + suc b ≡ suc (suc (a + b))
    both a b = omega arith

-- ---- the value of x times 2 ^ k
pub moved_val : (k : ℤ) (m : ℕ) (e : ℤ) → m * up (moved k m e) * (down e * down k) ≡ m * up e * up k * down (moved k m e)
moved_val k zero e = simp (zero-mul)
moved_val k (suc m) e = mul_assoc (suc m) (up (e +ℤ k)) (down e * down k) ∙ ap (λ (x : ℕ). suc m * x) (up_add e k) ∙ turned (suc m) (up e) (up k) (down (e +ℤ k))
  where
    turned : (m u v d : ℕ) → m * (u * v * d) ≡ m * u * v * d
    turned m u v d = omega arith

weigh : (m M d D k K a c : ℕ) → 0 < d → M * (d * K) ≡ m * k * D → m * c ≡ a * d → M * (c * K) ≡ a * k * D
weigh m M d D k K a c P p q =
    eq_of_mul-eq-mul_right d P (M * (c * K)) (a * k * D)
    (one ∙ ap (λ (x : ℕ). x * c) p ∙ two ∙ ap (λ (x : ℕ). x * (k * D)) q ∙ three)
  where
    one : M * (c * K) * d ≡ M * (d * K) * c
    one = omega arith

    two : m * k * D * c ≡ m * c * (k * D)
    two = omega arith

    three : a * d * (k * D) ≡ a * k * D * d
    three = omega arith

pub times_value : (k : ℤ) (x : Float) (s : Bool) (a c : ℕ) → HasValue x s a c → HasValue (times k x) s (a * up k) (c * down k)
times_value k nan s a c h = h
times_value k (inf t) s a c h = h
times_value k (fin t m e) s a c h = (h.0, weigh (m * up e) (m * up (moved k m e)) (down e) (down (moved k m e)) (up k) (down k) a c (down_pos e) (moved_val k m e) h.1)

-- in units, which 2 ^ t leaves whole
pub times_units : (f : Format) (t : ℕ) (x : Float) (s : Bool) (n : ℕ) → HasValue x s n (2 ^ low f) → HasValue (times (pos t) x) s (n * 2 ^ t) (2 ^ low f)
times_units f t x s n v = subst (λ (c : ℕ). HasValue (times (pos t) x) s (n * 2 ^ t) c) (mul-one (2 ^ low f)) (times_value (pos t) x s n (2 ^ low f) v)

pub times_finite : (k : ℤ) (x : Float) → finite (times k x) ≡ finite x
times_finite k nan = refl
times_finite k (inf s) = refl
times_finite k (fin s m e) = refl

-- ---- the format holds 2 ^ t times a value that it holds, where that is below the overflow
down_falls : (e : ℤ) (t : ℕ) → down (e +ℤ pos t) ≤ down e
down_falls (pos k) t = le_refl 1
down_falls (negsuc k) t = go (ltb t (suc k)) (ltb→lt t (suc k))
  where
    less : t < suc k → suc (suc k - suc t) ≤ suc k
    less h = omega arith

    go : (b : Bool) → (T b → t < suc k) → down (cond b (negsuc (suc k - suc t)) (pos (t - suc k))) ≤ 2 ^ suc k
    go true h = pow_mono (less (h tt))
    go false h = pow_pos (suc k)

below_top : (M D n l E : ℕ) → M * 2 ^ l ≡ n * D → 0 < D → n < 2 ^ (l + E) → M < 2 ^ E * D
below_top M D n l E h P u =
    lt_of_mul-lt-mul_right (2 ^ l)
    (subst (λ (x : ℕ). x < 2 ^ E * D * 2 ^ l) (sym h)
    (subst (λ (x : ℕ). n * D < x) (ap (λ (x : ℕ). x * D) (pow-add 2 l E) ∙ turned (2 ^ l) (2 ^ E)) (mul-lt-mul_of_pos_right u P)))
  where
    turned : (a b : ℕ) → a * b * D ≡ b * D * a
    turned a b = omega arith

pub times_fits : (f : Format) (t : ℕ) (x : Float) (s : Bool) (n : ℕ) → T (fits f x) → HasValue x s n (2 ^ low f) → n * 2 ^ t < overflow f → T (fits f (times (pos t) x))
unfolding fits
times_fits f t nan s n h v u = absurd v
times_fits f t (inf r) s n h v u = absurd v
times_fits f t (fin r zero e) s n h v u = h
times_fits f t (fin r (suc m) e) s n h v u =
    let a : Bool = eqb (suc m % 2) 1 in
    let b : Bool = ltb (suc m) (2 ^ prec f) in
    let c : Bool = leb (down e) (2 ^ low f) in
    let d : Bool = ltb (suc m * up e) (2 ^ suc (emax f) * down e) in
    let g = e +ℤ pos t in
    and_i (a && b && leb (down g) (2 ^ low f)) (ltb (suc m * up g) (2 ^ suc (emax f) * down g))
    (and_i (a && b) (leb (down g) (2 ^ low f)) (and_l (a && b) c (and_l (a && b && c) d h))
    (le→leb (down g) (2 ^ low f) (le_trans (down_falls e t) (leb→le (down e) (2 ^ low f) (and_r (a && b) c (and_l (a && b && c) d h))))))
    (lt→ltb (suc m * up g) (2 ^ suc (emax f) * down g) (below_top (suc m * up g) (down g) (n * 2 ^ t) (low f) (suc (emax f)) (times_units f t (fin r (suc m) e) s n v).1 (down_pos g) u))

-- ---- x + x is x times 2 where it is finite, and where the format holds that
twice_is : (f : Format) (x : Float) (s : Bool) (n : ℕ) → T (fits f x) → Held f x s n → n + n < overflow f → add f x x ≡ times (pos 1) x
twice_is f x s n h k u =
    same_value f (add f x x) (times (pos 1) x) s (n + n) (add-fits f x x) (times_fits f 1 x s n h k.value (subst (λ (z : ℕ). z < overflow f) (both n) u)) (twice_held f x s n k u).value
    (subst (λ (z : ℕ). HasValue (times (pos 1) x) s z (2 ^ low f)) (sym (both n)) (times_units f 1 x s n k.value))
  where
    both : (n : ℕ) → n + n ≡ n * 2
    both n = omega arith

-- of a value of the format
module _ (f : Format) where
  pub twice_of_finite : (x : Float) → T (fits f x) → T (finite (add f x x)) → add f x x ≡ times (pos 1) x
  unfolding add
  twice_of_finite nan h t = absurd t
  twice_of_finite (inf true) h t = absurd t
  twice_of_finite (inf false) h t = absurd t
  twice_of_finite (fin s m e) h t = let k = held f s m e h in twice_is f (fin s m e) s _ h k (twice_under f (fin s m e) s _ k t)

  pub twice_of_fitting : (x : Float) → T (fits f x) → T (finite x) → T (fits f (times (pos 1) x)) → add f x x ≡ times (pos 1) x
  twice_of_fitting nan h t h' = absurd t
  twice_of_fitting (inf s) h t h' = absurd t
  twice_of_fitting (fin s m e) h t h' =
      let x = fin s m e in
      let k = held f s m e h in
      let n = units_of f x in
      twice_is f x s n h k (subst (λ (z : ℕ). z < overflow f) (both n) (held_as f (times (pos 1) x) s (n * 2) h' (times_units f 1 x s n k.value)).under)
    where
      both : (n : ℕ) → n * 2 ≡ n + n
      both n = omega arith

  -- it is above 0 just where x is
  pub twice_above : (x : Float) → T (fits f x) → T (finite (add f x x)) → lt plus_zero (add f x x) ≡ lt plus_zero x
  unfolding add
  twice_above nan h t = absurd t
  twice_above (inf true) h t = absurd t
  twice_above (inf false) h t = absurd t
  twice_above (fin s m e) h t =
      let x = fin s m e in
      let k = held f s m e h in
      let n = units_of f x in
      let zero = (zero_held f false (pos 0)).value in
      lt_units plus_zero (add f x x) false s 0 (n + n) (2 ^ low f) (pow_pos (low f)) zero (twice_held f x s n k (twice_under f x s n k t)).value ∙ same s n ∙ sym (lt_units plus_zero x false s 0 n (2 ^ low f) (pow_pos (low f)) zero k.value)
    where
      half : (n : ℕ) → 0 < n + n → 0 < n
      half n l = omega arith

      twice : (n : ℕ) → 0 < n → 0 < n + n
      twice n l = omega arith

      same : (r : Bool) (n : ℕ) → below false 0 r (n + n) ≡ below false 0 r n
      same true n = refl
      same false n = same_bool (ltb 0 (n + n)) (ltb 0 n) (λ t. lt→ltb 0 n (half n (ltb→lt 0 (n + n) t))) (λ t. lt→ltb 0 (n + n) (twice n (ltb→lt 0 n t)))
