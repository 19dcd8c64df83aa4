-- The wrap over whole numbers of units: the sign and the size of `wrap_step f d h` by those of d and h. Assumes nothing.
use mathlib.Core.Path.{◌≡◌, refl, sym, ◌∙◌, subst}
use mathlib.Core.Bool.{Bool, true, false, not, ◌&&◌, ◌||◌, cond}
use Prim.Native.Nat.{ℕ, ◌+◌, ◌-◌, ◌%◌, ◌^◌, ◌≤◌, ◌<◌}
use native.Mathlib.Nat.{le_of_lt, lt_trans, mod-lt}
use native.Mathlib.Omega.{arith}
use lib.Dec.{T, leb, ltb, eqb, ltb→lt, lt→ltb, nltb→le, leb→le, le→leb, eqb→eq}
use lib.Pow.{pow_pos}
use lib.Ieee.{Float, Format, low, below, level, neg, sum, round, add, sub, rem, le}
use lib.Ieee.Fits.{eq→eqb}
use lib.Ieee.Exact.{HasValue}
use lib.Ieee.Scale.{finite, overflow}
use Rattle.angles.specs.Wrap.{wrap_step, brought}
use Rattle.floats.proofs.Units.{same_bool, lt_units, le_units, neg_units, add_units, sub_units, rem_units}
use Rattle.floats.proofs.Grid.{Held, Gridded, round_short, short_twice, short_under, gridded, short_rem, short_rest}

-- r, the remainder of d's size by 2h, is brought over h: to 2h - r with the other sign
abbrev pub over : Bool → ℕ → ℕ → Bool
over false r h = ltb h r
over true r h = leb h r

abbrev pub sign_of : Bool → Bool → Bool
sign_of true s = not s
sign_of false s = s

abbrev pub size_of : Bool → ℕ → ℕ → ℕ
size_of true r h = h + h - r
size_of false r h = r

-- the wrap of ±D by H
abbrev pub wrap_sign : Bool → ℕ → ℕ → Bool
wrap_sign s D H = sign_of (over s (D % (H + H)) H) s

abbrev pub wrap_size : Bool → ℕ → ℕ → ℕ
wrap_size s D H = size_of (over s (D % (H + H)) H) (D % (H + H)) H

-- ---- the two tests of `brought`
-- a positive remainder is never at -h or below
not_low : (r h : ℕ) → 0 < h → (below false r true h || level false r true h) ≡ false
not_low r h H = same_bool (eqb r h && eqb r 0) false (λ t. absurd (no (eqb→eq r h (first (eqb r h) (eqb r 0) t)) (eqb→eq r 0 (second (eqb r h) (eqb r 0) t)))) (λ t. absurd t)
  where
    first : (a b : Bool) → T (a && b) → T a
    first true b t = tt
    first false b t = t

    second : (a b : Bool) → T (a && b) → T b
    second true b t = t
    second false b t = absurd t

    no : r ≡ h → r ≡ 0 → ⊥
    no p q = omega arith

-- a negative one is there where its size is h or more
low_is : (r h : ℕ) → (below true r true h || level true r true h) ≡ leb h r
low_is r h = same_bool (ltb h r || (eqb r h && true)) (leb h r) to from
  where
    split : (a b : Bool) → (T a → h ≤ r) → (T b → h ≤ r) → T (a || (b && true)) → h ≤ r
    split true b f g t = f tt
    split false true f g t = g tt
    split false false f g t = absurd t

    at : h ≤ r → r ≤ h → r ≡ h
    at p q = omega arith

    eq_le : r ≡ h → h ≤ r
    eq_le p = omega arith

    to : T (ltb h r || (eqb r h && true)) → T (leb h r)
    to t = le→leb h r (split (ltb h r) (eqb r h) (λ x. le_of_lt (ltb→lt h r x)) (λ x. eq_le (eqb→eq r h x)) t)

    join : (a b : Bool) → (T (not a) → T b) → T (a || (b && true))
    join true b f = tt
    join false true f = tt
    join false false f = f tt

    from : T (leb h r) → T (ltb h r || (eqb r h && true))
    from t = join (ltb h r) (eqb r h) (λ x. eq→eqb (at (leb→le h r t) (nltb→le h r x)))

-- ---- the sum that brings r over
-- ±r ∓ p, for r below p
sum_over : (f : Format) (s : Bool) (r p l : ℕ) → r < p → sum f s r (not s) p l ≡ round f (not s) (p - r) l
unfolding sum
sum_over f false r p l h = go (ltb r p) (lt→ltb r p h)
  where
    go : (t : Bool) → T t → cond t (round f true (p - r) l) (round f (false && ltb p r) (r - p) l) ≡ round f true (p - r) l
    go true t = refl
    go false t = absurd t
sum_over f true r p l h = go (ltb r p) (lt→ltb r p h)
  where
    go : (t : Bool) → T t → cond t (round f false (p - r) l) (round f (true && ltb p r) (r - p) l) ≡ round f false (p - r) l
    go true t = refl
    go false t = absurd t

-- where r is brought over, 2h - r is no more than r
over_le : (s : Bool) (r h : ℕ) → T (over s r h) → h + h ≤ r + r
over_le false r h t = step (ltb→lt h r t)
  where
    step : h < r → h + h ≤ r + r
    step x = omega arith
over_le true r h t = step (leb→le h r t)
  where
    step : h ≤ r → h + h ≤ r + r
    step x = omega arith

twice_pos : (h : ℕ) → 0 < h → 0 < h + h
twice_pos h H = omega arith

rest_lt : (p r n : ℕ) → p < n → p - r < n
rest_lt p r n h = omega arith

-- what the two tests pick, for a remainder r of R units and a period p of 2H
pick : (f : Format) (s : Bool) (h p r : Float) (H R l : ℕ) → 0 < l → 0 < H → HasValue h false H l → HasValue p false (H + H) l → HasValue r s R l
    → ((z : Float) → z ≡ sum f s R (not s) (H + H) l → T (over s R H) → HasValue z (not s) (H + H - R) l)
    → HasValue (brought f h p r) (sign_of (over s R H) s) (size_of (over s R H) R H) l
unfolding brought
pick f false h p r H R l L P vh vp vr top =
    subst (λ (x : Bool). HasValue (cond x (sub f r p) (cond (le r (neg h)) (add f r p) r)) (sign_of (ltb H R) false) (size_of (ltb H R) R H) l) (sym (lt_units h r false false H R l L vh vr))
    (go (ltb H R) (top (sub f r p) (sub_units f r p false false R (H + H) l L vr vp)))
  where
    stays : le r (neg h) ≡ false
    stays = le_units r (neg h) false true R H l L vr (neg_units h false H l vh) ∙ not_low R H P

    go : (b : Bool) → (T b → HasValue (sub f r p) true (H + H - R) l) → HasValue (cond b (sub f r p) (cond (le r (neg h)) (add f r p) r)) (sign_of b false) (size_of b R H) l
    go true k = k tt
    go false k = subst (λ (x : Bool). HasValue (cond x (add f r p) r) false R l) (sym stays) vr
pick f true h p r H R l L P vh vp vr top =
    subst (λ (x : Bool). HasValue (cond x (sub f r p) (cond (le r (neg h)) (add f r p) r)) (sign_of (leb H R) true) (size_of (leb H R) R H) l) (sym (lt_units h r false true H R l L vh vr))
    (subst (λ (x : Bool). HasValue (cond x (add f r p) r) (sign_of (leb H R) true) (size_of (leb H R) R H) l) (sym (le_units r (neg h) true true R H l L vr (neg_units h false H l vh) ∙ low_is R H))
    (go (leb H R) (top (add f r p) (add_units f r p true false R (H + H) l L vr vp))))
  where
    go : (b : Bool) → (T b → HasValue (add f r p) false (H + H - R) l) → HasValue (cond b (add f r p) r) (sign_of b true) (size_of b R H) l
    go true k = k tt
    go false k = vr

-- ---- d = ±D units, h = H units above 0, with 2h finite
module _ (f : Format) (d h : Float) (s : Bool) (D H : ℕ) (hd : Held f d s D) (hh : Held f h false H) (P : 0 < H) (fin2 : T (finite (add f h h))) where
  L : 0 < 2 ^ low f
  L = pow_pos (low f)

  period_is : add f h h ≡ round f false (H + H) (2 ^ low f)
  unfolding sum
  period_is = add_units f h h false false H H (2 ^ low f) L hh.value hh.value

  period_under : H + H < overflow f
  period_under = short_under f (H + H) (short_twice f H hh.short) (subst (λ (x : Float). T (finite x)) period_is fin2)

  period_value : HasValue (add f h h) false (H + H) (2 ^ low f)
  period_value = subst (λ (x : Float). HasValue x false (H + H) (2 ^ low f)) (sym period_is) (round_short f false (H + H) (short_twice f H hh.short) period_under)

  grid : Gridded f D (H + H)
  grid = gridded f D (H + H) (twice_pos H P) hd.short (short_twice f H hh.short)

  pub left_lt : D % (H + H) < H + H
  left_lt = mod-lt D (twice_pos H P)

  rem_value : HasValue (rem f d (add f h h)) s (D % (H + H)) (2 ^ low f)
  rem_value =
      subst (λ (x : Float). HasValue x s (D % (H + H)) (2 ^ low f)) (sym (rem_units f d (add f h h) s false D (H + H) (2 ^ low f) L (twice_pos H P) hd.value period_value))
      (round_short f s (D % (H + H)) (short_rem f D (H + H) grid) (lt_trans left_lt period_under))

  over_value : (z : Float) → z ≡ sum f s (D % (H + H)) (not s) (H + H) (2 ^ low f) → T (over s (D % (H + H)) H) → HasValue z (not s) (H + H - D % (H + H)) (2 ^ low f)
  over_value z e t =
      subst (λ (x : Float). HasValue x (not s) (H + H - D % (H + H)) (2 ^ low f)) (sym (e ∙ sum_over f s (D % (H + H)) (H + H) (2 ^ low f) left_lt))
      (round_short f (not s) (H + H - D % (H + H)) (short_rest f D (H + H) grid (over_le s (D % (H + H)) H t)) (rest_lt (H + H) (D % (H + H)) (overflow f) period_under))

  -- the wrap, in units
  pub wrap_value : HasValue (wrap_step f d h) (sign_of (over s (D % (H + H)) H) s) (size_of (over s (D % (H + H)) H) (D % (H + H)) H) (2 ^ low f)
  unfolding wrap_step
  wrap_value = pick f s h (add f h h) (rem f d (add f h h)) H (D % (H + H)) (2 ^ low f) L P hh.value period_value rem_value over_value
