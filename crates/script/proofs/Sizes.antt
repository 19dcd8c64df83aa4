-- Reading a size digit by digit: what is left of it comes to the whole. Assumes nothing.
use mathlib.Core.Path.{◌≡◌, refl, sym, ap, ◌∙◌, subst}
use mathlib.Core.Bool.{Bool, true, false, not, ◌&&◌, cond}
use mathlib.Core.List.{List}
use Prim.Native.Nat.{ℕ, suc, ◌+◌, ◌-◌, ◌*◌, ◌^◌, ◌≤◌, ◌<◌}
use native.Mathlib.Omega.{arith}
use borrow.Author.Tests.{lt-ltb, le-ltb}
use lib.Dec.{T, ltb, ltb→lt, nltb→le}
use lib.ListN.{length, get_or}
use Rattle.std.specs.Prelude.{None, Some}
use Rattle.words.specs.Words.{digit_of, digit_in}
use Rattle.words.proofs.Digits.{is_digit, is_no_digit}
use Rattle.script.specs.Text.{found, token_of, end_of}
use Rattle.script.specs.Numbers.{decimal_from, size_in, size_of}
use Rattle.script.specs.declared.text.Class.TheVariants.{Blank, Mark}
use Rattle.script.specs.declared.text.Token.{Token}
use Rattle.script.proofs.Runs.{run_over, run_in}

-- a token of one byte or more lies in s
pub token_in : (s : List ℕ) (i : ℕ) → (token_of s i).start < (token_of s i).end → (token_of s i).end ≤ length s
token_in s i h = go (ltb (end_of Blank s i) (length s)) (ltb→lt _ _) (nltb→le _ _)
  where
    go : (t : Bool) → (T t → end_of Blank s i < length s) → (T (not t) → length s ≤ end_of Blank s i) → (token_of s i).end ≤ length s
    go true f g = let l = f tt in run_in Mark s (end_of Blank s i) (omega arith)
    go false f g = absurd (omega (arith, run_over Mark s (end_of Blank s i) (g tt)))

-- the digits before place k came to v, and what is left comes to the whole size
pub record Counted (s : List ℕ) (at end v k : ℕ) : Type 0 where
  pub below : k ≤ end
  pub inside : end ≤ length s
  pub comes : decimal_from (end - k) s k v ≡ size_of s at

pub counted_none : {s : List ℕ} {at : ℕ} {t : Token} → t ≡ token_of s at → t.start < t.end → Counted s at t.end 0 t.start
counted_none {s} {at} {t} e h = record {
  below = omega arith;
  inside = subst (λ (u : Token). u.start < u.end → u.end ≤ length s) (sym e) (token_in s at) h;
  comes = rw (lt-ltb t.start t.end h) at (ap (λ (u : Token). size_in s u) e);
}

one : (k : ℕ) (s : List ℕ) (i v : ℕ)
    → decimal_from (suc k) s i v
    ≡ cond (ltb (digit_of (get_or s i 0)) 10 && ltb (v * 10 + digit_of (get_or s i 0)) (2 ^ 64)) (decimal_from k s (i + 1) (v * 10 + digit_of (get_or s i 0))) None
unfolding decimal_from
one k s i v = refl

none : (s : List ℕ) (i v : ℕ) → decimal_from 0 s i v ≡ found v i
unfolding decimal_from
none s i v = refl

module _ {s : List ℕ} {at end v k : ℕ} (r : Counted s at end v k) where
  -- the next byte is a digit d, or the test fails there
  next : k < end
      → size_of s at
      ≡ cond (ltb (digit_of (get_or s k 0)) 10 && ltb (v * 10 + digit_of (get_or s k 0)) (2 ^ 64)) (decimal_from (end - (k + 1)) s (k + 1) (v * 10 + digit_of (get_or s k 0))) None
  next h =
      let l : end - k ≡ suc (end - (k + 1)) = omega arith in
      sym r.comes ∙ ap (λ (n : ℕ). decimal_from n s k v) l ∙ one (end - (k + 1)) s k v

  after : {d : ℕ} → k < end → Some d ≡ digit_in (get_or s k 0) → size_of s at ≡ cond (ltb d 10 && ltb (v * 10 + d) (2 ^ 64)) (decimal_from (end - (k + 1)) s (k + 1) (v * 10 + d)) None
  after h e =
      next h
      ∙ ap (λ (x : ℕ). cond (ltb x 10 && ltb (v * 10 + x) (2 ^ 64)) (decimal_from (end - (k + 1)) s (k + 1) (v * 10 + x)) None) (sym (is_digit (get_or s k 0) e).1)

  pub counted_more : {d w : ℕ} → k < end → Some d ≡ digit_in (get_or s k 0) → d < 10 → w ≡ v * 10 + d → w < 2 ^ 64 → Counted s at end w (k + 1)
  counted_more {d} {w} h e l f m =
      let b : v * 10 + d < 2 ^ 64 = omega arith in
      record {
        below = omega arith;
        inside = r.inside;
        comes = ap (λ (n : ℕ). decimal_from (end - (k + 1)) s (k + 1) n) f ∙ sym (rw (lt-ltb d 10 l, lt-ltb (v * 10 + d) (2 ^ 64) b) at (after h e));
      }

  pub counted_mark : k < end → None ≡ digit_in (get_or s k 0) → None ≡ size_of s at
  counted_mark h e = let l : 10 ≤ digit_of (get_or s k 0) = omega (arith, is_no_digit (get_or s k 0) e) in sym (rw (le-ltb (digit_of (get_or s k 0)) 10 l) at (next h))

  pub counted_letter : {d : ℕ} → k < end → Some d ≡ digit_in (get_or s k 0) → 10 ≤ d → None ≡ size_of s at
  counted_letter {d} h e l = sym (rw (le-ltb d 10 l) at (after h e))

  pub counted_over : {d : ℕ} → k < end → Some d ≡ digit_in (get_or s k 0) → d < 10 → 2 ^ 64 ≤ v * 10 + d → None ≡ size_of s at
  counted_over {d} h e l f = sym (rw (lt-ltb d 10 l, le-ltb (v * 10 + d) (2 ^ 64) f) at (after h e))

  pub counted_end : end ≤ k → found v end ≡ size_of s at
  counted_end h =
      let e : end ≡ k = omega (arith, r.below) in
      let l : 0 ≡ end - k = omega (arith, r.below) in
      ap (λ (n : ℕ). found v n) e ∙ sym (none s k v) ∙ ap (λ (n : ℕ). decimal_from n s k v) l ∙ r.comes
