-- THE LAWS OF THE WRAP (document 02, A9) as a step takes it, in any format and bit for bit: twice is once, −d, and everything times 2 ^ n. First in whole numbers, then of `wrap_step` by a half-turn that has passed its check. Assumes nothing.
use mathlib.Core.Path.{◌≡◌, refl, sym, ap, ap₂, ◌∙◌, subst}
use mathlib.Core.Bool.{Bool, true, false, not}
use mathlib.Core.Logic.{◌≢◌}
use Prim.Native.Nat.{ℕ, ◌+◌, ◌-◌, ◌*◌, ◌%◌, ◌^◌, ◌≤◌, ◌<◌}
use native.Mathlib.Nat.{le_of_lt, add-mul, mul_comm, mul-sub, mul-pos, mod-eq_of_lt, mul-lt-mul_of_pos_right, lt_of_mul-lt-mul_right, mul-le-mul_right, le_of_mul-le-mul_right}
use native.Mathlib.Omega.{arith}
use borrow.Author.Tests.{le-ltb, lt-leb, le-leb}
use lib.IntN.{pos}
use lib.Dec.{T, leb, ltb, ltb→lt, lt→ltb, leb→le, le→leb}
use lib.Pow.{pow_pos}
use lib.Ieee.{Float, nan, Format, low, neg, add, lt, fits}
use lib.Ieee.Fits.{neg-fits, and_l, and_r}
use lib.Ieee.Exact.{HasValue}
use lib.Ieee.Scale.{finite}
use Rattle.floats.specs.Numbers.{plus_zero}
use Rattle.floats.specs.Powers.{times}
use Rattle.floats.proofs.Finite.{twice_was_finite, neg_finite, finite_or_not}
use Rattle.floats.proofs.Units.{same_bool, scale_mod, neg_units, finite_value}
use Rattle.floats.proofs.Grid.{held_as, held_neg, same_value, one_value}
use Rattle.floats.proofs.Powers.{times_units, times_finite, times_fits}
use Rattle.angles.specs.Wrap.{wrap_step, half_turn}
use Rattle.angles.specs.Kinds.{Kind, Plain, Turn, through_of, half_of, turn_times, passes}
use Rattle.angles.proofs.Sizes.{over, sign_of, size_of, wrap_sign, wrap_size, left_lt, wrap_value}
use Rattle.angles.proofs.Exact.{Bounded, bounded, Sizes, sizes, wrap_fits, not_finite}

-- ---- in whole numbers

-- what lies within (−H, H] is its own remainder and isn't brought over
below_turn : (t : Bool) (W H : ℕ) → 0 < H → Bounded t W H → W < H + H
below_turn false W H P b = let c : W ≤ H = b in omega arith
below_turn true W H P b = let c : W < H = b in omega arith

not_over : (t : Bool) (W H : ℕ) → Bounded t W H → over t W H ≡ false
not_over false W H b = le-ltb H W b
not_over true W H b = lt-leb H W b

-- R is brought over with both signs or with neither, unless it is H
over_other : (s : Bool) (R H : ℕ) → R ≢ H → over (not s) R H ≡ over s R H
over_other s R H n = go s
  where
    strict : H ≤ R → (R ≡ H → ⊥) → H < R
    strict l k = omega arith

    same : leb H R ≡ ltb H R
    same = same_bool (leb H R) (ltb H R) (λ t. lt→ltb H R (strict (leb→le H R t) n)) (λ t. le→leb H R (le_of_lt (ltb→lt H R t)))

    go : (s : Bool) → over (not s) R H ≡ over s R H
    go false = same
    go true = sym same

sign_other : (b s : Bool) → sign_of b (not s) ≡ not (sign_of b s)
sign_other true s = refl
sign_other false s = refl

-- and H is brought to H with either sign; nothing else is
half_sign : (s : Bool) (H : ℕ) → sign_of (over s H H) s ≡ false
half_sign false H = ap (λ (b : Bool). sign_of b false) (le-ltb H H (omega arith))
half_sign true H = ap (λ (b : Bool). sign_of b true) (le-leb H H (omega arith))

half_size : (b : Bool) (H : ℕ) → size_of b H H ≡ H
half_size true H = omega arith
half_size false H = refl

half_only : (b : Bool) (R H : ℕ) → R < H + H → size_of b R H ≡ H → R ≡ H
half_only true R H l e = let c : H + H - R ≡ H = e in omega arith
half_only false R H l e = e

-- everything times u
over_scaled : (s : Bool) (r h u : ℕ) → 0 < u → over s (r * u) (h * u) ≡ over s r h
over_scaled false r h u U = same_bool (ltb (h * u) (r * u)) (ltb h r) (λ t. lt→ltb h r (lt_of_mul-lt-mul_right u (ltb→lt (h * u) (r * u) t))) (λ t. lt→ltb (h * u) (r * u) (mul-lt-mul_of_pos_right (ltb→lt h r t) U))
over_scaled true r h u U = same_bool (leb (h * u) (r * u)) (leb h r) (λ t. le→leb h r (le_of_mul-le-mul_right (leb→le (h * u) (r * u) t) U)) (λ t. le→leb (h * u) (r * u) (mul-le-mul_right u (leb→le h r t)))

size_scaled : (b : Bool) (r h u : ℕ) → size_of b (r * u) (h * u) ≡ size_of b r h * u
size_scaled true r h u = ap₂ ◌-◌ (sym (add-mul h h u) ∙ mul_comm (h + h) u) (mul_comm r u) ∙ sym (mul-sub u (h + h) r) ∙ mul_comm u (h + h - r)
size_scaled false r h u = refl

left_scaled : (D H u : ℕ) → 0 < H → 0 < u → D * u % (H * u + H * u) ≡ D % (H + H) * u
left_scaled D H u P U = ap (λ (x : ℕ). D * u % x) (sym (add-mul H H u)) ∙ scale_mod D (H + H) u (twice H P) U
  where
    twice : (h : ℕ) → 0 < h → 0 < h + h
    twice h P = omega arith

-- ---- as values, 2h being finite
-- the same value, its sign and its units written by equal ones
said : (f : Format) (x : Float) {s t : Bool} {n k : ℕ} → s ≡ t → n ≡ k → HasValue x s n (2 ^ low f) → HasValue x t k (2 ^ low f)
said f x {s} {t} {n} {k} p q v = subst (λ (z : ℕ). HasValue x t z (2 ^ low f)) q (subst (λ (z : Bool). HasValue x z n (2 ^ low f)) p v)

module _ (f : Format) (d h : Float) (fd : T (fits f d)) (fh : T (fits f h)) (two : T (finite (add f h h))) (k : Sizes f d h) where
  abbrev w : Float
  w = wrap_step f d h

  abbrev R : ℕ
  R = k.D % (k.H + k.H)

  -- its sign and its size
  abbrev t : Bool
  t = wrap_sign k.sign k.D k.H

  abbrev W : ℕ
  W = wrap_size k.sign k.D k.H

  value : HasValue w t W (2 ^ low f)
  value = wrap_value f d h k.sign k.D k.H k.of_d k.of_h k.H_pos two

  held : T (fits f w)
  held = wrap_fits f d h fd

  less : R < k.H + k.H
  less = left_lt f d h k.sign k.D k.H k.of_d k.of_h k.H_pos two

  -- d is its own wrap where it lies within (−h, h],
  pub own_wrap : Bounded k.sign k.D k.H → w ≡ d
  own_wrap b =
      let s = k.sign in
      let H = k.H in
      let r = mod-eq_of_lt (below_turn s k.D H k.H_pos b) in
      let o = not_over s k.D H b in
      same_value f w d s k.D held fd
      (said f w (ap (λ (z : ℕ). sign_of (over s z H) s) r ∙ ap (λ (z : Bool). sign_of z s) o) (ap (λ (z : ℕ). size_of (over s z H) z H) r ∙ ap (λ (z : Bool). size_of z k.D H) o) value) k.of_d.value

  -- as the wrap does
  abbrev wrapped_sizes : Sizes f w h
  wrapped_sizes = record { sign = t; D = W; H = k.H; of_d = held_as f w t W held value; of_h = k.of_h; H_pos = k.H_pos }

  within : Bounded t W k.H
  within = bounded k.sign R k.H less

  -- the wrap is h just where the remainder is h in size
  at_half : R ≡ k.H → w ≡ h
  at_half e =
      let s = k.sign in
      let H = k.H in
      same_value f w h false H held fh (said f w (ap (λ (z : ℕ). sign_of (over s z H) s) e ∙ half_sign s H) (ap (λ (z : ℕ). size_of (over s z H) z H) e ∙ half_size (over s H H) H) value) k.of_h.value

  only_half : w ≡ h → R ≡ k.H
  only_half e = half_only (over k.sign R k.H) R k.H less (one_value f h t false W k.H (subst (λ (z : Float). HasValue z t W (2 ^ low f)) e value) k.of_h.value).1

  -- and else the wrap of −d is the negated wrap
  abbrev opposite : Sizes f (neg d) h
  opposite = record { sign = not k.sign; D = k.D; H = k.H; of_d = held_neg f d k.sign k.D k.of_d; of_h = k.of_h; H_pos = k.H_pos }

  other : R ≢ k.H → wrap_step f (neg d) h ≡ neg w
  other n =
      let s = k.sign in
      let o = over_other s R k.H n in
      same_value f (wrap_step f (neg d) h) (neg w) (not t) W (wrap_fits f (neg d) h (neg-fits f d fd)) (neg-fits f w held)
      (said f (wrap_step f (neg d) h) (ap (λ (z : Bool). sign_of z (not s)) o ∙ sign_other (over s R k.H) s) (ap (λ (z : Bool). size_of z R k.H) o)
      (wrap_value f (neg d) h (not s) k.D k.H opposite.of_d k.of_h k.H_pos two)) (neg_units w t W (2 ^ low f) value)

  -- everything times 2 ^ n
  wrap_scaled : (n : ℕ) → T (fits f (times (pos n) d)) → T (fits f (times (pos n) h)) → T (finite (add f (times (pos n) h) (times (pos n) h))) → wrap_step f (times (pos n) d) (times (pos n) h) ≡ times (pos n) w
  wrap_scaled n fd' fh' two' =
      let u = 2 ^ n in
      let U : 0 < u = pow_pos n in
      let d' = times (pos n) d in
      let h' = times (pos n) h in
      let w' = wrap_step f d' h' in
      let s = k.sign in
      let D = k.D in
      let H = k.H in
      let l = left_scaled D H u k.H_pos U in
      let o = over_scaled s R H u U in
      let v' : HasValue w' t (W * u) (2 ^ low f) =
      said f w' (ap (λ (z : ℕ). sign_of (over s z (H * u)) s) l ∙ ap (λ (z : Bool). sign_of z s) o) (ap (λ (z : ℕ). size_of (over s z (H * u)) z (H * u)) l ∙ ap (λ (z : Bool). size_of z (R * u) (H * u)) o ∙ size_scaled (over s R H) R H u)
      (wrap_value f d' h' s (D * u) (H * u) (held_as f d' s (D * u) fd' (times_units f n d s D k.of_d.value)) (held_as f h' false (H * u) fh' (times_units f n h false H k.of_h.value)) (mul-pos k.H_pos U) two') in
      let held' = wrap_fits f d' h' fd' in
      same_value f w' (times (pos n) w) t (W * u) held' (times_fits f n w t W held value (held_as f w' t (W * u) held' v').under) v' (times_units f n w t W value)

-- ---- by a half-turn that has passed its check; of a d that isn't finite the wrap is NaN, and the laws hold of that too
module _ (f : Format) (d h : Float) (fd : T (fits f d)) (fh : T (fits f h)) (turn : T (half_turn f h)) where
  above : T (lt plus_zero h)
  unfolding half_turn
  above = and_l (lt plus_zero h) (finite (add f h h)) turn

  pub twice_finite : T (finite (add f h h))
  unfolding half_turn
  twice_finite = and_r (lt plus_zero h) (finite (add f h h)) turn

  pub parts : T (finite d) → Sizes f d h
  parts nd = sizes f d h fd nd fh (twice_was_finite f h twice_finite) above

  pub step_finite : T (finite d) → T (finite (wrap_step f d h))
  step_finite nd = let k = parts nd in finite_value (wrap_step f d h) _ _ (2 ^ low f) (value f d h fd fh twice_finite k)

  pub step_again : wrap_step f (wrap_step f d h) h ≡ wrap_step f d h
  step_again = finite_or_not d
      (λ nd. let k = parts nd in own_wrap f (wrap_step f d h) h (wrap_fits f d h fd) fh twice_finite (wrapped_sizes f d h fd fh twice_finite k) (within f d h fd fh twice_finite k))
      (λ e. ap (λ (z : Float). wrap_step f z h) (not_finite f d h e) ∙ not_finite f nan h refl ∙ sym (not_finite f d h e))

  pub step_negated : wrap_step f d h ≢ h → wrap_step f (neg d) h ≡ neg (wrap_step f d h)
  unfolding neg
  step_negated n = finite_or_not d
      (λ nd. let k = parts nd in other f d h fd fh twice_finite k (λ r. n (at_half f d h fd fh twice_finite k r)))
      (λ e. not_finite f (neg d) h (neg_finite d ∙ e) ∙ ap neg (sym (not_finite f d h e)))

  pub step_negated_half : wrap_step f d h ≡ h → wrap_step f (neg d) h ≡ h
  step_negated_half q = finite_or_not d
      (λ nd. let k = parts nd in at_half f (neg d) h (neg-fits f d fd) fh twice_finite (opposite f d h fd fh twice_finite k) (only_half f d h fd fh twice_finite k q))
      (λ e. not_finite f (neg d) h (neg_finite d ∙ e) ∙ sym (not_finite f d h e) ∙ q)

  -- THE LAW OF UNITS: d and h times 2 ^ n, where the format holds both and that h passes its check too, give the wrap times 2 ^ n
  pub step_times : (n : ℕ) → T (fits f (times (pos n) d)) → T (fits f (times (pos n) h)) → T (half_turn f (times (pos n) h)) → wrap_step f (times (pos n) d) (times (pos n) h) ≡ times (pos n) (wrap_step f d h)
  unfolding half_turn
  step_times n fd' fh' turn' = finite_or_not d
      (λ nd. wrap_scaled f d h fd fh twice_finite (parts nd) n fd' fh' (and_r (lt plus_zero (times (pos n) h)) (finite (add f (times (pos n) h) (times (pos n) h))) turn'))
      (λ e. not_finite f (times (pos n) d) (times (pos n) h) (times_finite (pos n) d ∙ e) ∙ ap (times (pos n)) (sym (not_finite f d h e)))

-- so through a kind that has passed its check: a difference and a half-turn in another unit give the difference in that unit
pub through_times : (f : Format) (k : Kind) (d : Float) (n : ℕ) → T (fits f d) → T (fits f (half_of k)) → T (passes f k) → T (fits f (times (pos n) d)) → T (fits f (half_of (turn_times (pos n) k))) → T (passes f (turn_times (pos n) k))
    → through_of f (turn_times (pos n) k) (times (pos n) d) ≡ times (pos n) (through_of f k d)
through_times f Plain d n fd fh t fd' fh' t' = refl
through_times f (Turn h) d n fd fh t fd' fh' t' = step_times f d h fd fh t n fd' fh' t'
