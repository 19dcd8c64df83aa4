-- LAWS OF THE WRAP, the page of document 02's A9: wrapping twice equals wrapping once; the wrap of −d is the negated wrap of d unless the wrap of d is exactly h; doubling d and h doubles the wrap, provided 2d and 4h are finite.
-- In both formats and for every d and h of the format, zeros, NaN and infinities too. Equal means bit for bit, +0 and −0 being two values; no answer is a NaN. 2x is written x + x, which is exact or not finite.
-- A wrap answers a value or a refusal. Where a law speaks of the wrap of a wrap, a refused one is its answer, as the code's `?` has it; the laws of `shown` speak of the number that is shown of an answer, which is +0 where it is refused, and wrap that again.
-- The laws don't say what the wrap is: a build that gave d where |d| < h and else h would have them all. Demand2.antt says what it is (`wrap_is_exact`), Demand1.antt when it is refused (`wrap_exactly_when`), and that it gives +0 then (`refused_wrap`).
-- A step wraps by the same lines: crates/angles/proofs/StepLaws.antt has the laws of those, for any d (`step_again`, `step_negated`) and any unit 2 ^ n, through a kind too (`step_times`, `through_times`). Assumes nothing.
use mathlib.Core.Path.{◌≡◌, refl, sym, ap, ◌∙◌, subst}
use mathlib.Core.Bool.{Bool, true, false, ◌&&◌, cond}
use mathlib.Core.List.{[]}
use mathlib.Core.Logic.{◌≢◌, ◌⊎◌}
use lib.Dec.{T}
use lib.Ieee.{Float, Format, binary64, neg, add, fits}
use lib.Ieee.Scale.{finite}
use borrow.Fn.Kinds.{GoodsP}
use Rattle.floats.specs.declared.Refusal.TheVariants.{Param as PARAM}
use Rattle.floats.specs.Refusal.{bad_lone, Outcome, refused, accepted, refusal, or, unless, onward}
use Rattle.floats.specs.Numbers.{plus_zero}
use Rattle.floats.proofs.Finite.{neg_apart, finite_or_not}
use Rattle.floats.proofs.Powers.{twice_of_fitting}
use Rattle.floats.proofs.Refusals.{gave_number}
use Rattle.angles.specs.Wrap.{half_turn, wrap_of, shown}
use Rattle.angles.proofs.Exact.{tested}
use Rattle.angles.proofs.Laws as laws
use Rattle.angles.proofs.wrap.Kinds as wrap_of_lem
use Rattle.angles.proofs.wrap.Reads as wrap
use Rattle.demands.proofs.Instances.{Instance, f64}
use Rattle.demands.proofs.Complete.{Allows, At}
use Rattle.demands.proofs.Exactly.{wrap_refused}

-- A call wrap(d, h), at f64 or f32: d and h are values of the type, as its parameters are, and its contract allows that z is handed back.
module _ (N : Instance) where
  abbrev pub AreValues : N.row.Denot → N.row.Denot → Type 0
  AreValues d h = GoodsP ([], tt) (wrap_of_lem.ps N.row N.laws N.copies) (d, (h, tt))

  abbrev pub HandsBack : N.row.Denot → N.row.Denot → Outcome N.row.Denot → Type 0
  HandsBack d h z = Allows (wrap_of_lem.ps N.row N.laws N.copies) (wrap_of_lem.r N.row N.laws N.copies) (At wrap_of_lem.ps wrap_of_lem.r wrap.Learnt N) ([], tt) (d, (h, tt)) z (tt, (tt, tt))

-- At f64 they are values of binary64, and z is the outcome that the laws speak of. (At f32: `wrap_answers` in crates/demands32/proofs/Demands.antt.)
pub wrap_answers : (d h : Float) (z : Outcome Float) → AreValues f64 d h → HandsBack f64 d h z → T (fits binary64 d) × T (fits binary64 h) × (z ≡ wrap_of binary64 d h)
wrap_answers d h z g p = (subst T (sym g.0.1) tt, subst T (sym g.1.0.1) tt, p)

module _ (f : Format) (d h : Float) (fd : T (fits f d)) (fh : T (fits f h)) where
  stays : (w : Float) → wrap_of f d h ≡ accepted w → wrap_of f w h ≡ accepted w
  stays w e = ap (λ (o : Outcome Float). wrap_of f (or plus_zero o) h) (sym e) ∙ laws.again f d h fd fh (tested f d h w e).0 ∙ e

  -- ---- Wrapping twice equals wrapping once

  -- For every d and h the second answer is the first, number and place too.
  pub twice_is_once : onward (wrap_of f d h) (λ w. wrap_of f w h) ≡ wrap_of f d h
  twice_is_once = go (wrap_of f d h) refl
    where
      go : (o : Outcome Float) → wrap_of f d h ≡ o → onward o (λ w. wrap_of f w h) ≡ o
      go (refused r) e = refl
      go (accepted w) e = stays w e

  -- A d that isn't finite is refused by 56, so that there is no value to wrap again: a second wrap can't hide that the first was refused.
  pub twice_of_no_number : finite d ≡ false → onward (wrap_of f d h) (λ w. wrap_of f w h) ≡ refused bad_lone
  twice_of_no_number e = twice_is_once ∙ laws.no_number f d h e

  -- So a value that was handed back stays as it is.
  pub value_stays : (w : Float) → wrap_of f d h ≡ accepted w → wrap_of f w h ≡ accepted w
  value_stays = stays

  -- The number that is shown may be wrapped again too. For every finite d the second answer is then the first, number and place too: a refusal that h brings comes back as it was.
  pub shown_twice : T (finite d) → wrap_of f (shown (wrap_of f d h)) h ≡ wrap_of f d h
  shown_twice nd = laws.again f d h fd fh nd

  -- A d that isn't finite is refused by 56 and gives +0. Wrapped again that gives +0: refused by 56 where h isn't finite, by 6 where h isn't above 0 or 2h isn't finite, and else accepted, so that a second wrap can hide that the first was refused.
  pub shown_of_no_number : finite d ≡ false → wrap_of f (shown (wrap_of f d h)) h ≡ unless (finite h) bad_lone (unless (half_turn f h) PARAM (accepted plus_zero))
  shown_of_no_number e = ap (λ (o : Outcome Float). wrap_of f (shown o) h) (laws.no_number f d h e) ∙ laws.zero_wraps f h fh

  -- So a number that was shown stays as it is, accepted or not.
  pub shown_stays : shown (wrap_of f (shown (wrap_of f d h)) h) ≡ shown (wrap_of f d h)
  shown_stays = finite_or_not d
      (λ nd. ap shown (shown_twice nd))
      (λ e. ap shown (shown_of_no_number e) ∙ nothing (finite h) (half_turn f h) ∙ sym (ap shown (laws.no_number f d h e)))
    where
      nothing : (a b : Bool) → shown (unless a bad_lone (unless b PARAM (accepted plus_zero))) ≡ plus_zero
      nothing true true = refl
      nothing true false = refl
      nothing false b = refl

  -- ---- The wrap of −d is the negated wrap of d unless the wrap of d is exactly h

  -- Where the wrap of d isn't exactly h, that of −d is its negative; a zero changes its sign too.
  pub negative : (w : Float) → wrap_of f d h ≡ accepted w → w ≢ h → wrap_of f (neg d) h ≡ accepted (neg w)
  negative w e n = laws.negated f d h fd fh w e n

  -- Where the wrap of d is exactly h, that of −d is h again,
  pub negative_at_h : (w : Float) → wrap_of f d h ≡ accepted w → w ≡ h → wrap_of f (neg d) h ≡ accepted h
  negative_at_h w e n = laws.negated_half f d h fd fh w e n

  -- and never the negated wrap: the exception is needed wherever it is made.
  pub not_negated_at_h : (w : Float) → wrap_of f d h ≡ accepted w → w ≡ h → wrap_of f (neg d) h ≢ accepted (neg w)
  not_negated_at_h w e n q = neg_apart h (tested f d h w e).1 (ap (or h) (sym (laws.negated_half f d h fd fh w e n) ∙ q) ∙ ap neg n)

  -- ---- Doubling d and h doubles the wrap, provided 2d and 4h are finite

  -- The answer has twice the value; where it is refused (by 6, h not being above 0), it is refused as before.
  pub doubles : T (finite (add f d d)) → T (finite (add f (add f h h) (add f h h)))
      → wrap_of f (add f d d) (add f h h) ≡ onward (wrap_of f d h) (λ w. accepted (add f w w))
  doubles p q = laws.doubled f d h fd fh p q

  -- So is the number that is shown: +0 is twice +0.
  pub doubles_shown : T (finite (add f d d)) → T (finite (add f (add f h h) (add f h h)))
      → shown (wrap_of f (add f d d) (add f h h)) ≡ add f (shown (wrap_of f d h)) (shown (wrap_of f d h))
  unfolding fits
  doubles_shown p q = ap shown (laws.doubled f d h fd fh p q) ∙ go (wrap_of f d h)
    where
      go : (o : Outcome Float) → shown (onward o (λ w. accepted (add f w w))) ≡ add f (shown o) (shown o)
      go (refused r) = sym (twice_of_fitting f plus_zero tt tt tt)
      go (accepted w) = refl

-- ---- Refused inputs, of any d and h

-- What is refused of d is refused of −d with the same number and place.
pub negative_refused : (f : Format) (d h : Float) → (refusal (wrap_of f d h)).number ≢ 0 → wrap_of f (neg d) h ≡ wrap_of f d h
negative_refused f d h n = let k = gave_number (wrap_of f d h) n in laws.negated_refused f d h k.0 k.1 ∙ sym k.1

-- The number that is shown is +0 both times, and not −0.
pub negative_shown : (f : Format) (d h : Float) → (refusal (wrap_of f d h)).number ≢ 0 → (shown (wrap_of f d h) ≡ plus_zero) × (shown (wrap_of f (neg d) h) ≡ plus_zero)
negative_shown f d h n = let k = wrap_refused f d h n in (k, ap shown (negative_refused f d h n) ∙ k)

-- Where 2d or 4h isn't finite, the wrap of 2d by 2h is refused, by 6 where 2d and 2h are finite and else by 56: wherever the wrap of d by h is accepted, the condition is needed.
pub not_doubled : (f : Format) (d h : Float) → (finite (add f d d) ≡ false) ⊎ (finite (add f (add f h h) (add f h h)) ≡ false)
    → wrap_of f (add f d d) (add f h h) ≡ refused (cond (finite (add f d d) && finite (add f h h)) PARAM bad_lone)
not_doubled = laws.not_doubled

-- So +0 is shown.
pub not_doubled_shown : (f : Format) (d h : Float) → (finite (add f d d) ≡ false) ⊎ (finite (add f (add f h h) (add f h h)) ≡ false)
    → shown (wrap_of f (add f d d) (add f h h)) ≡ plus_zero
not_doubled_shown f d h k = ap shown (laws.not_doubled f d h k)
