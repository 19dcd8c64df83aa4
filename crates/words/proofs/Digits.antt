-- Reading a word digit by digit: what is left of it comes to the whole. Assumes nothing.
use mathlib.Core.Path.{◌≡◌, refl, sym, ap, ◌∙◌, subst}
use mathlib.Core.Bool.{Bool, true, false, ◌&&◌, cond, true≢false}
use mathlib.Core.List.{List}
use Prim.Native.Nat.{ℕ, zero, suc, ◌+◌, ◌-◌, ◌*◌, ◌^◌, ◌≤◌, ◌<◌}
use native.Mathlib.Nat.{zero-add, pow-succ', zero-lt-suc, pow-le-pow_right}
use native.Mathlib.Numerals.{add-one}
use native.Mathlib.Omega.{arith}
use borrow.Author.Tests.{leb-true, lt-ltb, le-ltb}
use lib.Dec.{T, leb, ltb, ltb→lt}
use lib.Ieee.{Format, binary32, binary64}
use lib.ListN.{length, get_or, drop, get_or-eq_default, length-take, length-drop}
use lib.Seq.{get_or-take, get_or-drop}
use Rattle.std.specs.Prelude.{slice_range}
use Rattle.std.proofs.lemmas.Bool.Decides.{nat_tests}
use Rattle.std.proofs.lemmas.Option.{cond_some}
use Rattle.words.specs.Words.{Word, Bits, Bad, between, digit_of, digit_in, digits_from, width, word_of}

-- ---- a digit

pub is_digit : (c : ℕ) {d : ℕ} → Bits d ≡ digit_in c → (d < 16) × (d ≡ digit_of c)
is_digit c {d} e = let p = cond_some (ltb (digit_of c) 16) (digit_of c) d (sym e) in (grind (arith, nat_tests), sym p.1)

pub is_no_digit : (c : ℕ) → Bad ≡ digit_in c → 16 ≤ digit_of c
is_no_digit c e = grind (arith, nat_tests)

-- ---- a word

-- past the end stands no digit
no_digit : (s : List ℕ) (i : ℕ) → length s ≤ i → digit_of (get_or s i 0) ≡ 16
unfolding digit_of
no_digit s i h = rw (get_or-eq_default s 0 h)

-- a list that ends before the digits do has too few
cut : (k : ℕ) (s : List ℕ) (i v : ℕ) → length s < i + suc k → digits_from (suc k) s i v ≡ Bad
unfolding digits_from
cut zero s i v h = rw (no_digit s i (omega arith))
cut (suc k) s i v h = either (ltb (digit_of (get_or s i 0)) 16) (cut k s (i + 1) (v * 16 + digit_of (get_or s i 0)) (omega arith))
  where
    either : (t : Bool) {w : Word} → w ≡ Bad → cond t w Bad ≡ Bad
    either true e = e
    either false e = refl

-- a list that ends before the word does has no word
pub no_word : (f : Format) (s : List ℕ) (i : ℕ) → length s < i + width f → word_of f s i ≡ Bad
no_word binary32 s i h = cut 7 s i 0 h
no_word binary64 s i h = cut 15 s i 0 h

-- item i of the first n items from place at on
pub part_at : (s : List ℕ) {a b : List ℕ} (at n i : ℕ) → a ≡ slice_range s at (length s) → b ≡ slice_range a 0 n → i < length b → get_or b i 0 ≡ get_or s (at + i) 0
part_at s {a} {b} at n i e h l =
    let j : i < n - 0 = omega (arith, ap length h, length-take (n - 0) (drop 0 a)) in
    let w : i < length s - at = omega (arith, ap length h, length-take (n - 0) (drop 0 a), length-drop 0 a, ap length e, length-take (length s - at) (drop at s)) in
    ap (λ (x : List ℕ). get_or x i 0) h ∙ get_or-take (n - 0) (drop 0 a) i 0 j ∙ get_or-drop 0 a i 0 ∙ ap (λ (k : ℕ). get_or a k 0) (zero-add i)
    ∙ ap (λ (x : List ℕ). get_or x i 0) e ∙ get_or-take (length s - at) (drop at s) i 0 w ∙ get_or-drop at s i 0

-- k digits are read: they come to v, and what is left comes to the whole word
pub record Read (f : Format) (s : List ℕ) (at k v : ℕ) : Type 0 where
  pub small : v < 16 ^ k
  pub comes : digits_from (width f - k) s (at + k) v ≡ word_of f s at

pub read_none : {f : Format} {s : List ℕ} {at : ℕ} → Read f s at 0 0
read_none {f} {s} {at} =
    let n : width f - 0 ≡ width f = omega arith in
    let i : at + 0 ≡ at = omega arith in
    record { small = omega arith; comes = rw (n, i) }

-- one digit, and what is left after it
one : (k : ℕ) (s : List ℕ) (i v : ℕ)
    → digits_from (suc k) s i v ≡ cond (ltb (digit_of (get_or s i 0)) 16) (digits_from k s (i + 1) (v * 16 + digit_of (get_or s i 0))) Bad
unfolding digits_from
one k s i v = refl

none : (s : List ℕ) (i v : ℕ) → digits_from 0 s i v ≡ Bits v
unfolding digits_from
none s i v = refl

next : (f : Format) (s : List ℕ) (at k v : ℕ) → k < width f
    → digits_from (width f - k) s (at + k) v
    ≡ cond (ltb (digit_of (get_or s (at + k) 0)) 16) (digits_from (width f - (k + 1)) s (at + k + 1) (v * 16 + digit_of (get_or s (at + k) 0))) Bad
next f s at k v h = ap (λ (n : ℕ). digits_from n s (at + k) v) left ∙ one (width f - (k + 1)) s (at + k) v
  where
    left : width f - k ≡ suc (width f - (k + 1))
    left = omega arith

pub read_more : {f : Format} {s : List ℕ} {at k v d : ℕ} → Read f s at k v → k < width f → Bits d ≡ digit_in (get_or s (at + k) 0) → Read f s at (k + 1) (v * 16 + d)
read_more {f} {s} {at} {k} {v} {d} r h e = record { small = grown; comes = ap (λ (i : ℕ). digits_from (width f - (k + 1)) s i (v * 16 + d)) place ∙ rest }
  where
    l : d < 16
    l = (is_digit (get_or s (at + k) 0) e).0

    grown : v * 16 + d < 16 ^ (k + 1)
    grown = subst (λ (n : ℕ). v * 16 + d < 16 ^ n) (sym (add-one k)) (omega (arith, pow-succ' 16 k, r.small, l))

    place : at + (k + 1) ≡ at + k + 1
    place = omega arith

    rest : digits_from (width f - (k + 1)) s (at + k + 1) (v * 16 + d) ≡ word_of f s at
    rest =
        ap (λ (t : Bool). cond t (digits_from (width f - (k + 1)) s (at + k + 1) (v * 16 + d)) Bad) (sym (lt-ltb d 16 l))
        ∙ ap (λ (x : ℕ). cond (ltb x 16) (digits_from (width f - (k + 1)) s (at + k + 1) (v * 16 + x)) Bad) (is_digit (get_or s (at + k) 0) e).1
        ∙ sym (next f s at k v h) ∙ r.comes

pub read_bad : {f : Format} {s : List ℕ} {at k v : ℕ} → Read f s at k v → k < width f → Bad ≡ digit_in (get_or s (at + k) 0) → Bad ≡ word_of f s at
read_bad {f} {s} {at} {k} {v} r h e =
    ap (λ (t : Bool). cond t (digits_from (width f - (k + 1)) s (at + k + 1) (v * 16 + digit_of (get_or s (at + k) 0))) Bad) (sym (le-ltb (digit_of (get_or s (at + k) 0)) 16 (is_no_digit (get_or s (at + k) 0) e)))
    ∙ sym (next f s at k v h) ∙ r.comes

pub read_end : {f : Format} {s : List ℕ} {at k v : ℕ} → Read f s at k v → width f ≤ k → k ≤ width f → Bits v ≡ word_of f s at
read_end {f} {s} {at} {k} {v} r l h = sym (none s (at + k) v) ∙ ap (λ (n : ℕ). digits_from n s (at + k) v) over ∙ r.comes
  where
    over : 0 ≡ width f - k
    over = omega arith

-- a word fits 64 bits while it is read
pub fit : {f : Format} {s : List ℕ} {at k v d : ℕ} → Read f s at k v → k < width f → d < 16 → v * 16 + d < 2 ^ 64
fit {f} {s} {at} {k} {v} {d} r h l = omega (arith, r.small, most)
  where
    short : (f : Format) → width f ≤ 16
    short binary32 = omega arith
    short binary64 = omega arith

    few : k ≤ 15
    few = omega (arith, short f)

    most : 16 ^ k ≤ 16 ^ 15
    most = pow-le-pow_right (zero-lt-suc 15) few

below : (k : ℕ) (s : List ℕ) (i v j : ℕ) {b : ℕ} → v < 16 ^ j → digits_from k s i v ≡ Bits b → b < 16 ^ (j + k)
unfolding digits_from
below zero s i v j {b} h e = let n : v ≡ b = cc in let m : j + 0 ≡ j = omega arith in rw m (omega arith)
below (suc k) s i v j {b} h e = go (ltb (digit_of (get_or s i 0)) 16) (ltb→lt _ 16) (λ l g. below k s (i + 1) (v * 16 + digit_of (get_or s i 0)) (suc j) l g) e
  where
    go : (t : Bool) {d : ℕ} {w : Word} → (T t → d < 16) → (v * 16 + d < 16 ^ suc j → w ≡ Bits b → b < 16 ^ (suc j + k)) → cond t w Bad ≡ Bits b → b < 16 ^ (j + suc k)
    go true l rest g = let m : j + suc k ≡ suc j + k = omega arith in let p = l tt in rw m (rest (omega (arith, pow-succ' 16 j)) g)
    go false l rest g = let z : ◌≡◌ {A = ℕ} 0 1 = cc in absurd (omega arith)

-- a word is below 16 to the number of its digits
pub word_below : (f : Format) (s : List ℕ) (i : ℕ) {b : ℕ} → word_of f s i ≡ Bits b → b < 16 ^ width f
word_below f s i e = let m : width f ≡ 0 + width f = omega arith in rw m (below (width f) s i 0 0 (omega arith) e)

-- what lies between two numbers is not below the first
pub at_least : (a b c : ℕ) → between a b c ≡ true → a ≤ c
at_least a b c h = go (leb a c) (leb-true a c) h
  where
    go : (t : Bool) → (t ≡ true → a ≤ c) → t && leb c b ≡ true → a ≤ c
    go true f k = f refl
    go false f k = absurd (true≢false (sym k))
