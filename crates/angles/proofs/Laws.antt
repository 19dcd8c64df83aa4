-- THE LAWS OF THE WRAP (document 02, A9), of the outcome that the contract of `wrap` cites: in any format, bit for bit, accepted and refused. Assumes nothing.
use mathlib.Core.Path.{◌≡◌, refl, sym, ap, ap₂, ◌∙◌, subst}
use mathlib.Core.Bool.{Bool, true, false, ◌&&◌, cond, true≢false}
use mathlib.Core.Logic.{◌≢◌, ◌⊎◌, inl, inr}
use native.Mathlib.Omega.{arith}
use lib.IntN.{pos}
use lib.Dec.{T}
use lib.Ieee.{Float, Format, neg, add, lt, fits}
use lib.Ieee.Fits.{add-fits}
use lib.Ieee.Bits.{is_true}
use lib.Ieee.Scale.{finite}
use Rattle.floats.specs.declared.Refusal.{Refusal}
use Rattle.floats.specs.declared.Refusal.TheVariants.{Param as PARAM}
use Rattle.floats.specs.Refusal.{bad_lone, Outcome, refused, accepted, or, unless, onward}
use Rattle.floats.specs.Numbers.{plus_zero, all_finite}
use Rattle.floats.specs.Powers.{times}
use Rattle.floats.proofs.Finite.{neg_finite, twice_was_finite}
use Rattle.floats.proofs.Grid.{zero_held}
use Rattle.floats.proofs.Powers.{twice_above, twice_of_finite, twice_of_fitting}
use Rattle.floats.proofs.Refusals.{refused_never}
use Rattle.angles.specs.Wrap.{wrap_step, half_turn, wrap_of}
use Rattle.angles.proofs.Exact.{wrap_fits, tested}
use Rattle.angles.proofs.StepLaws.{own_wrap, twice_finite, parts, step_finite, step_again, step_negated, step_negated_half, step_times}

accepts : (f : Format) (d h : Float) → T (finite d) → T (finite h) → T (half_turn f h) → wrap_of f d h ≡ accepted (wrap_step f d h)
unfolding wrap_of all_finite
accepts f d h a b c = rw (is_true (finite d) a, is_true (finite h) b, is_true (half_turn f h) c)

-- where the tests come out alike, the same is refused
refused_alike : (f : Format) (d h d' h' : Float) (r : Refusal) → finite d' ≡ finite d → finite h' ≡ finite h → half_turn f h' ≡ half_turn f h → wrap_of f d h ≡ refused r → wrap_of f d' h' ≡ refused r
unfolding wrap_of all_finite
refused_alike f d h d' h' r p q t e = rw (p, q, t) (go (finite d && (finite h && true)) (half_turn f h) e)
  where
    go : (a b : Bool) → unless a bad_lone (unless b PARAM (accepted (wrap_step f d h))) ≡ refused r → unless a bad_lone (unless b PARAM (accepted (wrap_step f d' h'))) ≡ refused r
    go true true e = absurd (refused_never (sym e))
    go true false e = e
    go false b e = e

-- ---- twice

-- a d that isn't finite is refused by 56
pub no_number : (f : Format) (d h : Float) → finite d ≡ false → wrap_of f d h ≡ refused bad_lone
unfolding wrap_of all_finite
no_number f d h e = rw e

-- the wrap of +0 is +0, unless h alone is refused
pub zero_wraps : (f : Format) (h : Float) → T (fits f h) → wrap_of f plus_zero h ≡ unless (finite h) bad_lone (unless (half_turn f h) PARAM (accepted plus_zero))
unfolding wrap_of all_finite fits
zero_wraps f h fh = go (finite h) (half_turn f h) stays
  where
    stays : T (half_turn f h) → wrap_step f plus_zero h ≡ plus_zero
    stays t =
        let k = parts f plus_zero h tt fh t tt in
        own_wrap f plus_zero h tt fh (twice_finite f plus_zero h tt fh t) (record { sign = false; D = 0; H = k.H; of_d = zero_held f false (pos 0); of_h = k.of_h; H_pos = k.H_pos }) (omega arith)

    go : (a b : Bool) → (T b → wrap_step f plus_zero h ≡ plus_zero) → unless (a && true) bad_lone (unless b PARAM (accepted (wrap_step f plus_zero h))) ≡ unless a bad_lone (unless b PARAM (accepted plus_zero))
    go true true k = ap accepted (k tt)
    go true false k = refl
    go false b k = refl

module _ (f : Format) (d h : Float) (fd : T (fits f d)) (fh : T (fits f h)) where
  -- of a finite d the wrap of what its wrap gives, or of +0 where that is refused, is the same outcome
  pub again : T (finite d) → wrap_of f (or plus_zero (wrap_of f d h)) h ≡ wrap_of f d h
  again nd = go (wrap_of f d h) refl
    where
      go : (o : Outcome Float) → wrap_of f d h ≡ o → wrap_of f (or plus_zero o) h ≡ o
      go (refused r) e = refused_alike f d h plus_zero h r (sym (is_true (finite d) nd)) refl refl e
      go (accepted w) e =
          let k = tested f d h w e in
          subst (λ (z : Float). wrap_of f z h ≡ accepted z) k.3
          (accepts f (wrap_step f d h) h (step_finite f d h fd fh k.2 nd) k.1 k.2 ∙ ap accepted (step_again f d h fd fh k.2))

  -- ---- the wrap of −d: the negated w where that isn't h, and else h again
  module _ (w : Float) (e : wrap_of f d h ≡ accepted w) where
    passes : T (finite d) × T (finite h) × T (half_turn f h) × (wrap_step f d h ≡ w)
    passes = tested f d h w e

    of_negative : wrap_of f (neg d) h ≡ accepted (wrap_step f (neg d) h)
    of_negative = accepts f (neg d) h (subst T (sym (neg_finite d)) passes.0) passes.1 passes.2

    pub negated : w ≢ h → wrap_of f (neg d) h ≡ accepted (neg w)
    negated n = of_negative ∙ ap accepted (step_negated f d h fd fh passes.2 (λ z. n (sym passes.3 ∙ z)) ∙ ap neg passes.3)

    pub negated_half : w ≡ h → wrap_of f (neg d) h ≡ accepted h
    negated_half z = of_negative ∙ ap accepted (step_negated_half f d h fd fh passes.2 (passes.3 ∙ z))

pub negated_refused : (f : Format) (d h : Float) (r : Refusal) → wrap_of f d h ≡ refused r → wrap_of f (neg d) h ≡ refused r
negated_refused f d h r = refused_alike f d h (neg d) h r (neg_finite d) refl refl

-- ---- 2d by 2h

module _ (f : Format) (d h : Float) (fd : T (fits f d)) (fh : T (fits f h)) (two_d : T (finite (add f d d))) (four_h : T (finite (add f (add f h h) (add f h h)))) where
  two_h : T (finite (add f h h))
  two_h = twice_was_finite f (add f h h) four_h

  turn_same : half_turn f (add f h h) ≡ half_turn f h
  unfolding half_turn
  turn_same = ap₂ ◌&&◌ (twice_above f h fh two_h) (is_true (finite (add f (add f h h) (add f h h))) four_h ∙ sym (is_true (finite (add f h h)) two_h))

  step_doubled : T (half_turn f h) → wrap_step f (add f d d) (add f h h) ≡ add f (wrap_step f d h) (wrap_step f d h)
  step_doubled turn =
      let p = twice_of_finite f d fd two_d in
      let q = twice_of_finite f h fh two_h in
      let fd' = subst (λ (z : Float). T (fits f z)) p (add-fits f d d) in
      let w = wrap_step f d h in
      let e = step_times f d h fd fh turn 1 fd' (subst (λ (z : Float). T (fits f z)) q (add-fits f h h)) (subst (λ (z : Float). T (half_turn f z)) q (subst T (sym turn_same) turn)) in
      ap₂ (wrap_step f) p q ∙ e
      ∙ sym (twice_of_fitting f w (wrap_fits f d h fd) (step_finite f d h fd fh turn (twice_was_finite f d two_d)) (subst (λ (z : Float). T (fits f z)) e (wrap_fits f (times (pos 1) d) (times (pos 1) h) fd')))

  -- 2d and 4h being finite: twice the wrap, or refused as before
  pub doubled : wrap_of f (add f d d) (add f h h) ≡ onward (wrap_of f d h) (λ w. accepted (add f w w))
  doubled = go (wrap_of f d h) refl
    where
      both : (x y : Float) → T (finite x) → T (finite y) → finite x ≡ finite y
      both x y a b = is_true (finite x) a ∙ sym (is_true (finite y) b)

      go : (o : Outcome Float) → wrap_of f d h ≡ o → wrap_of f (add f d d) (add f h h) ≡ onward o (λ w. accepted (add f w w))
      go (refused r) e = refused_alike f d h (add f d d) (add f h h) r (both (add f d d) d two_d (twice_was_finite f d two_d)) (both (add f h h) h two_h (twice_was_finite f h two_h)) turn_same e
      go (accepted w) e =
          let k = tested f d h w e in
          accepts f (add f d d) (add f h h) two_d two_h (subst T (sym turn_same) k.2) ∙ ap accepted (step_doubled k.2 ∙ ap (λ (z : Float). add f z z) k.3)

-- one of them not being finite: refused, by 6 where 2d and 2h are finite, and else by 56
pub not_doubled : (f : Format) (d h : Float) → (finite (add f d d) ≡ false) ⊎ (finite (add f (add f h h) (add f h h)) ≡ false)
    → wrap_of f (add f d d) (add f h h) ≡ refused (cond (finite (add f d d) && finite (add f h h)) PARAM bad_lone)
unfolding wrap_of all_finite half_turn
not_doubled f d h = go (finite (add f d d)) (finite (add f h h)) (lt plus_zero (add f h h)) (finite (add f (add f h h) (add f h h)))
  where
    go : (a b l c : Bool) → (a ≡ false) ⊎ (c ≡ false) → unless (a && (b && true)) bad_lone (unless (l && c) PARAM (accepted (wrap_step f (add f d d) (add f h h)))) ≡ refused (cond (a && b) PARAM bad_lone)
    go true true true true (inl e) = absurd (true≢false e)
    go true true true true (inr e) = absurd (true≢false e)
    go true true true false k = refl
    go true true false c k = refl
    go true false l c k = refl
    go false b l c k = refl
