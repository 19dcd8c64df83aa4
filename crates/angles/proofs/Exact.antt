-- THE LAW: the wrap is exact, in any format (`wraps`); and a difference that isn't finite comes out not finite (`not_finite`). Assumes nothing.
use mathlib.Core.Path.{◌≡◌, refl, sym, ap, ◌∙◌, subst}
use mathlib.Core.Bool.{Bool, true, false, not, ◌&&◌, ◌||◌, cond, true≢false}
use mathlib.Core.List.{[], ◌∷◌}
use Prim.Native.Nat.{ℕ, zero, suc, ◌+◌, ◌-◌, ◌*◌, ◌/◌, ◌%◌, ◌^◌, ◌≤◌, ◌<◌}
use native.Mathlib.Nat.{lt_irrefl, le_of_suc-le-suc, mod-add-div', zero-mul, suc-mul}
use native.Mathlib.Omega.{arith}
use lib.IntN.{ℤ, pos, negsuc, neg_ℤ, ◌+ℤ◌, ◌*ℤ◌, neg_ℤ-neg_ℤ, neg_ℤ-+ℤ, +ℤ_comm, +ℤ-neg_ℤ_cancel}
use lib.Signed.{◌≤ℤ◌, ◌<ℤ◌, le_z_yes, lt_z_yes}
use lib.Dec.{T, leb, ltb, eqb, ltb→lt, lt→ltb, nltb→le, leb→le, le→leb, nleb→lt}
use lib.Pow.{pow_pos}
use lib.Ieee.{Float, nan, inf, fin, Format, low, below, level, neg, add, sub, rem, lt, le, fits}
use lib.Ieee.Fits.{and_l, and_r, cond-fits, add-fits, sub-fits, rem-fits, eq→eqb}
use lib.Ieee.Exact.{HasValue}
use lib.Ieee.Scale.{finite}
use Rattle.floats.specs.declared.Refusal.TheVariants.{Param as PARAM}
use Rattle.floats.specs.Refusal.{bad_lone, Outcome, accepted, unless}
use Rattle.floats.specs.Numbers.{plus_zero, all_finite}
use Rattle.angles.specs.Wrap.{wrap_step, brought, half_turn, wrap_of}
use Rattle.angles.specs.Kinds.{Kind, Plain, Turn, through_of, kind_of}
use Rattle.floats.specs.Units.{units_of, minus?, signed, scaled}
use Rattle.angles.specs.Exact.{Wraps}
use Rattle.floats.proofs.Refusals.{passed}
use Rattle.floats.proofs.Units.{lt_units, le_units, neg_units, finite_value}
use Rattle.floats.proofs.Grid.{Held, held, units_is, scaled_is}
use Rattle.angles.proofs.Sizes.{over, sign_of, size_of, left_lt, wrap_value}

-- ---- the integers
-- a = c - b
less : (a b c : ℕ) → a + b ≡ c → pos a ≡ neg_ℤ (pos b) +ℤ pos c
less a b c e = sym (+ℤ_comm (neg_ℤ (pos b)) (pos c) ∙ ap (λ (x : ℕ). pos x +ℤ neg_ℤ (pos b)) (sym e) ∙ +ℤ-neg_ℤ_cancel (pos a) (pos b))

neg_mul : (q p : ℕ) → neg_ℤ (pos q *ℤ pos p) ≡ neg_ℤ (pos q) *ℤ pos p
neg_mul zero p = ap (λ (x : ℕ). neg_ℤ (pos x)) (zero-mul p) ∙ ap pos (sym (zero-mul p))
neg_mul (suc q) p = refl

neg_sum : (x a : ℤ) (q p : ℕ) → x ≡ a +ℤ pos q *ℤ pos p → neg_ℤ x ≡ neg_ℤ a +ℤ neg_ℤ (pos q) *ℤ pos p
neg_sum x a q p e = ap neg_ℤ e ∙ neg_ℤ-+ℤ a (pos q *ℤ pos p) ∙ ap (λ (z : ℤ). neg_ℤ a +ℤ z) (neg_mul q p)

-- how many turns are taken off
abbrev pub turns_of : Bool → Bool → ℕ → ℤ
turns_of true s q = signed s (suc q)
turns_of false s q = signed s q

one_more : (D R q p : ℕ) → R + q * p ≡ D → R < p → D + (p - R) ≡ suc q * p
one_more D R q p e h = rw suc-mul (omega arith)

turns_off : (b s : Bool) (D R H q : ℕ) → R + q * (H + H) ≡ D → R < H + H → signed s D ≡ signed (sign_of b s) (size_of b R H) +ℤ turns_of b s q *ℤ (pos H +ℤ pos H)
turns_off false false D R H q e h = ap pos (sym e)
turns_off true false D R H q e h = less D (H + H - R) (suc q * (H + H)) (one_more D R q (H + H) e h)
turns_off false true D R H q e h = neg_sum (pos D) (pos R) q (H + H) (ap pos (sym e))
turns_off true true D R H q e h =
    neg_sum (pos D) (neg_ℤ (pos (H + H - R))) (suc q) (H + H) (less D (H + H - R) (suc q * (H + H)) (one_more D R q (H + H) e h))
    ∙ ap (λ (z : ℤ). z +ℤ negsuc q *ℤ pos (H + H)) (neg_ℤ-neg_ℤ (pos (H + H - R)))

-- ---- the bounds: below h in size where negative, and at most h where not
abbrev pub Bounded : Bool → ℕ → ℕ → Type 0
Bounded false w h = w ≤ h
Bounded true w h = w < h

pub bounded : (s : Bool) (R H : ℕ) → R < H + H → Bounded (sign_of (over s R H) s) (size_of (over s R H) R H) H
bounded false R H l = go (ltb H R) (ltb→lt H R) (nltb→le H R)
  where
    far : H < R → H + H - R < H
    far x = omega arith

    go : (b : Bool) → (T b → H < R) → (T (not b) → R ≤ H) → Bounded (sign_of b false) (size_of b R H) H
    go true x y = far (x tt)
    go false x y = y tt
bounded true R H l = go (leb H R) (leb→le H R) (nleb→lt H R)
  where
    far : H ≤ R → H + H - R ≤ H
    far x = omega arith

    go : (b : Bool) → (T b → H ≤ R) → (T (not b) → R < H) → Bounded (sign_of b true) (size_of b R H) H
    go true x y = far (x tt)
    go false x y = y tt

above : (t : Bool) (w h : ℕ) → 0 < h → Bounded t w h → neg_ℤ (pos h) <ℤ signed t w
above t w zero P b = absurd (lt_irrefl 0 P)
above false w (suc k) P b = lt_z_yes tt
above true zero (suc k) P b = lt_z_yes tt
above true (suc w) (suc k) P b = lt_z_yes (lt→ltb w k (le_of_suc-le-suc b))

at_most : (t : Bool) (w h : ℕ) → Bounded t w h → signed t w ≤ℤ pos h
at_most false w h b = le_z_yes (le→leb w h b)
at_most true zero h b = le_z_yes (le→leb 0 h (zero_le' h))
  where
    zero_le' : (h : ℕ) → 0 ≤ h
    zero_le' h = omega arith
at_most true (suc w) h b = le_z_yes tt

above_bits : (t : Bool) (w h : ℕ) → 0 < h → Bounded t w h → T (below true h t w)
above_bits false w h P b = lt→ltb 0 (h + w) (sum_pos h w P)
  where
    sum_pos : (h w : ℕ) → 0 < h → 0 < h + w
    sum_pos h w P = omega arith
above_bits true w h P b = lt→ltb w h b

at_most_bits : (t : Bool) (w h : ℕ) → 0 < h → Bounded t w h → T (below t w false h || level t w false h)
at_most_bits false w h P b = join (ltb w h) (eqb w h) (λ x. eq→eqb (same b (nltb→le w h x)))
  where
    same : w ≤ h → h ≤ w → w ≡ h
    same p q = omega arith

    join : (a c : Bool) → (T (not a) → T c) → T (a || (c && true))
    join true c f = tt
    join false true f = tt
    join false false f = f tt
at_most_bits true w h P b = left (ltb 0 (w + h)) (level true w false h) (lt→ltb 0 (w + h) (sum_pos w h P))
  where
    sum_pos : (w h : ℕ) → 0 < h → 0 < w + h
    sum_pos w h P = omega arith

    left : (a c : Bool) → T a → T (a || c)
    left true c t = tt
    left false c t = absurd t

-- ---- the sign: what is brought over is not zero, so a zero kept the sign of d
sign_of_lem : (f : Format) (x : Float) (s : Bool) (n : ℕ) → HasValue x s n (2 ^ low f) → minus? x ≡ s
sign_of_lem f nan s n p = absurd p
sign_of_lem f (inf t) s n p = absurd p
sign_of_lem f (fin t m e) s n p = p.0

kept_sign : (b s : Bool) (R H : ℕ) → R < H + H → size_of b R H ≡ 0 → sign_of b s ≡ s
kept_sign true s R H h z = absurd (some z)
  where
    some : H + H - R ≡ 0 → ⊥
    some e = omega arith
kept_sign false s R H h z = refl

-- ---- what a wrap gives fits
pub wrap_fits : (f : Format) (d h : Float) → T (fits f d) → T (fits f (wrap_step f d h))
unfolding wrap_step brought
wrap_fits f d h t =
    let p = add f h h in
    let r = rem f d p in
    cond-fits f (lt h r) (sub f r p) (cond (le r (neg h)) (add f r p) r) (sub-fits f r p) (cond-fits f (le r (neg h)) (add f r p) r (add-fits f r p) (rem-fits f d p t))

-- ---- the law, from the sizes
module _ (f : Format) (d h : Float) (s : Bool) (D H : ℕ) (hd : Held f d s D) (hh : Held f h false H) (P : 0 < H) (two : T (finite (add f h h))) (ok : T (fits f d)) where
  size_law : Wraps f d h (wrap_step f d h)
  size_law =
      let w = wrap_step f d h in
      let l = 2 ^ low f in
      let L : 0 < l = pow_pos (low f) in
      let R = D % (H + H) in
      let b = over s R H in
      let v : HasValue w (sign_of b s) (size_of b R H) l = wrap_value f d h s D H hd hh P two in
      let q = D / (H + H) in
      let lt' : R < H + H = left_lt f d h s D H hd hh P two in
      let sd : scaled f d ≡ signed s D = scaled_is f d s D hd.value in
      let sh : scaled f h ≡ pos H = scaled_is f h false H hh.value in
      let sw : scaled f w ≡ signed (sign_of b s) (size_of b R H) = scaled_is f w (sign_of b s) (size_of b R H) v in
      let B : Bounded (sign_of b s) (size_of b R H) H = bounded s R H lt' in
      record {
        is_finite = finite_value w (sign_of b s) (size_of b R H) l v;
        holds = wrap_fits f d h ok;
        turns = turns_of b s q;
        exact =
            sd ∙ turns_off b s D R H q (mod-add-div' D (H + H)) lt' ∙ ap (λ (z : ℤ). z +ℤ turns_of b s q *ℤ (pos H +ℤ pos H)) (sym sw)
            ∙ ap (λ (z : ℤ). scaled f w +ℤ turns_of b s q *ℤ (z +ℤ z)) (sym sh);
        over = subst (λ (z : ℤ). neg_ℤ z <ℤ scaled f w) (sym sh) (subst (λ (z : ℤ). neg_ℤ (pos H) <ℤ z) (sym sw) (above (sign_of b s) (size_of b R H) H P B));
        within = subst (λ (z : ℤ). scaled f w ≤ℤ z) (sym sh) (subst (λ (z : ℤ). z ≤ℤ pos H) (sym sw) (at_most (sign_of b s) (size_of b R H) H B));
        lt_low = subst T (sym (lt_units (neg h) w true (sign_of b s) H (size_of b R H) l L (neg_units h false H l hh.value) v)) (above_bits (sign_of b s) (size_of b R H) H P B);
        zero_sign = λ z.
            sign_of_lem f w (sign_of b s) (size_of b R H) v ∙ kept_sign b s R H lt' (sym (units_is f w (sign_of b s) (size_of b R H) v) ∙ z) ∙ sym (sign_of_lem f d s D hd.value);
        le_high = subst T (sym (le_units w h (sign_of b s) false (size_of b R H) H l L v hh.value)) (at_most_bits (sign_of b s) (size_of b R H) H P B);
      }

-- ---- h above 0 is not negative, and is not 0 units
zero_value : (f : Format) → HasValue plus_zero false 0 (2 ^ low f)
zero_value f = (refl, ap (λ (x : ℕ). x * 2 ^ low f) (zero-mul 1) ∙ zero-mul (2 ^ low f))

positive : (f : Format) (t : Bool) (h : Float) (H : ℕ) → HasValue h t H (2 ^ low f) → T (lt plus_zero h) → (t ≡ false) × (0 < H)
positive f t h H v a = go t (subst T (lt_units plus_zero h false t 0 H (2 ^ low f) (pow_pos (low f)) (zero_value f) v) a)
  where
    go : (t : Bool) → T (below false 0 t H) → (t ≡ false) × (0 < H)
    go false x = (refl, ltb→lt 0 H x)
    go true x = absurd x

-- d and h as what they hold, in units
pub record Sizes (f : Format) (d h : Float) : Type 0 where
  pub sign : Bool
  pub D : ℕ
  pub H : ℕ
  pub of_d : Held f d sign D
  pub of_h : Held f h false H
  pub H_pos : 0 < H

pub sizes : (f : Format) (d h : Float) → T (fits f d) → T (finite d) → T (fits f h) → T (finite h) → T (lt plus_zero h) → Sizes f d h
sizes f nan h fd nd fh nh a = absurd nd
sizes f (inf s) h fd nd fh nh a = absurd nd
sizes f (fin s m e) nan fd nd fh nh a = absurd nh
sizes f (fin s m e) (inf t) fd nd fh nh a = absurd nh
sizes f (fin s m e) (fin t n g) fd nd fh nh a =
    let k = held f t n g fh in
    let p = positive f t (fin t n g) (units_of f (fin t n g)) k.value a in
    record {
      sign = s;
      D = units_of f (fin s m e);
      H = units_of f (fin t n g);
      of_d = held f s m e fd;
      of_h = subst (λ (z : Bool). Held f (fin t n g) z (units_of f (fin t n g))) p.0 k;
      H_pos = p.1;
    }

-- THE LAW. For finite d and h that the format holds, with h above 0 and 2h finite, the wrap is finite, differs from d by a whole number of turns of 2h exactly, and lies in (-h, h].
pub wraps : (f : Format) (d h : Float) → T (fits f d) → T (finite d) → T (fits f h) → T (finite h) → T (lt plus_zero h) → T (finite (add f h h)) → Wraps f d h (wrap_step f d h)
wraps f d h fd nd fh nh a two =
    let k = sizes f d h fd nd fh nh a in
    size_law f d h k.sign k.D k.H k.of_d k.of_h k.H_pos two fd

-- the same of the outcome of a wrap, which has passed its tests
pub tested : (f : Format) (d h w : Float) → wrap_of f d h ≡ accepted w → T (finite d) × T (finite h) × T (half_turn f h) × (wrap_step f d h ≡ w)
unfolding wrap_of all_finite
tested f d h w e =
    let p = passed (all_finite (d ∷ h ∷ [])) bad_lone (unless (half_turn f h) PARAM (accepted (wrap_step f d h))) w e in
    let q = passed (half_turn f h) PARAM (accepted (wrap_step f d h)) w p.1 in
    let both : T (finite d && (finite h && true)) = subst T (sym p.0) tt in
    (and_l (finite d) (finite h && true) both, and_l (finite h) true (and_r (finite d) (finite h && true) both), subst T (sym q.0) tt, taken_same q.1)
  where
    taken_same : {x y : Float} → ◌≡◌ {A = Outcome Float} (accepted x) (accepted y) → x ≡ y
    taken_same e = cc

-- The same of what the public wrap hands back: a value that is not refused is exact.
pub wrap_exact : (f : Format) (d h w : Float) → T (fits f d) → T (fits f h) → wrap_of f d h ≡ accepted w → Wraps f d h w
unfolding half_turn
wrap_exact f d h w fd fh e =
    let k = tested f d h w e in
    subst (λ (x : Float). Wraps f d h x) k.3 (wraps f d h fd k.0 fh k.1 (and_l (lt plus_zero h) (finite (add f h h)) k.2) (and_r (lt plus_zero h) (finite (add f h h)) k.2))

-- And of a finite difference passed through a turn that has passed its check.
pub through_exact : (f : Format) (h d : Float) → T (fits f d) → T (finite d) → T (fits f h) → kind_of f (Turn h) ≡ accepted (Turn h) → Wraps f d h (through_of f (Turn h) d)
unfolding half_turn
through_exact f h d fd nd fh e =
    let turn : Kind = Turn h in
    let p = passed (finite h) bad_lone (unless (half_turn f h) PARAM (accepted turn)) turn e in
    let ok : T (half_turn f h) = subst T (sym (passed (half_turn f h) PARAM (accepted turn) turn p.1).0) tt in
    wraps f d h fd nd fh (subst T (sym p.0) tt) (and_l (lt plus_zero h) (finite (add f h h)) ok) (and_r (lt plus_zero h) (finite (add f h h)) ok)

-- ---- a d that isn't finite
nothing : (f : Format) (h p : Float) → brought f h p nan ≡ nan
unfolding brought lt le
nothing f nan p = refl
nothing f (inf s) p = refl
nothing f (fin s m e) p = refl

pub not_finite : (f : Format) (d h : Float) → finite d ≡ false → wrap_step f d h ≡ nan
unfolding wrap_step rem
not_finite f nan h t = nothing f h (add f h h)
not_finite f (inf s) h t = nothing f h (add f h h)
not_finite f (fin s m e) h t = absurd (true≢false t)

-- so does one passed through a kind
pub through_not_finite : (f : Format) (k : Kind) (d : Float) → finite d ≡ false → finite (through_of f k d) ≡ false
through_not_finite f Plain d t = t
through_not_finite f (Turn h) d t = ap finite (not_finite f d h t)
