-- A number and a kind as bytes, there and back. Assumes nothing.
use Prim.Native.Nat.{ℕ, zero, suc, ◌+◌, ◌^◌, ◌≤◌}
use mathlib.Core.Path.{◌≡◌, refl, sym, ap, ap₂, ◌∙◌, subst}
use mathlib.Core.Bool.{Bool, true, false, not, ◌&&◌, false≢true}
use mathlib.Core.Logic.{◌≢◌}
use mathlib.Core.List.{List, [], ◌∷◌, ◌++◌}
use native.Mathlib.Numerals.{add-one}
use native.Mathlib.Omega.{arith}
use borrow.Author.Tests.{eq-eqb, ne_eqb, eqb-true}
use lib.Dec.{eqb, T}
use lib.ListN.{length, take, drop, get_or, set, length-set}
use lib.Seq.{sets, length-sets, get_or-drop, drop-drop}
use lib.Ieee.{Float, nan, inf, fin, binary64, fits, is_nan, of_bits, to_bits}
use lib.Ieee.Bits.{of_bits-to_bits, to_bits-lt, to_bits-of_bits}
use lib.Ieee.Scale.{finite}
use Rattle.floats.specs.Numbers.{all_finite}
use Rattle.floats.proofs.Tests.{and_left, and_right}
use Rattle.angles.specs.Kinds.{half_of}
use Rattle.angles.specs.declared.Kind.TheVariants.{Plain, Turn}
use Rattle.angles.specs.Kinds.{Kind}
use Rattle.pieces.specs.Bytes.{AreBytes, little_endian, word_of, read_each, all_true, number_bytes, number_at, kind_bytes, kind_at, formed, kind_fits}
use Rattle.pieces.proofs.Laws.{length_little, word_of_little, word_small, little_of_word}

-- ---- as the code makes them

pub number_written : (v : Float) → number_bytes v ≡ little_endian 8 (to_bits binary64 v)
unfolding number_bytes
number_written v = refl

pub number_read : (b : List ℕ) → number_at b ≡ of_bits binary64 (word_of 8 b)
unfolding number_at
number_read b = refl

pub length_number : (v : Float) → length (number_bytes v) ≡ 8
length_number v = ap length (number_written v) ∙ length_little 8 (to_bits binary64 v)

pub length_kind : (k : Kind) → length (kind_bytes k) ≡ 9
unfolding kind_bytes
length_kind k = go k
  where
    go : (r : Kind) → length (kind_bytes r) ≡ 9
    go Plain = ap suc (length_little 8 0)
    go (Turn h) = ap suc (length_number h)

module _ (out : List ℕ) (at : ℕ) where
  pub length_put : (c : ℕ) (v : List ℕ) → length (sets (set out at c) (at + 1) v) ≡ length out
  length_put c v = length-sets (set out at c) (at + 1) v ∙ length-set out at c

  pub plain_written : {k : Kind} → k ≡ Plain → sets (set out at 0) (at + 1) (little_endian 8 0) ≡ sets out at (kind_bytes k)
  unfolding kind_bytes
  plain_written {k} e = ap (λ (i : ℕ). sets (set out at 0) i (little_endian 8 0)) (add-one at) ∙ ap (λ (r : Kind). sets out at (kind_bytes r)) (sym e)

  pub turn_written : {k : Kind} {h : Float} {b : ℕ} → k ≡ Turn h → b ≡ to_bits binary64 h → sets (set out at 1) (at + 1) (little_endian 8 b) ≡ sets out at (kind_bytes k)
  unfolding kind_bytes
  turn_written {k} {h} {b} e w =
      ap (λ (i : ℕ). sets (set out at 1) i (little_endian 8 b)) (add-one at) ∙ ap (λ (v : ℕ). sets (set out at 1) (suc at) (little_endian 8 v)) w
      ∙ ap (λ (r : Kind). sets out at (kind_bytes r)) (sym e)

module _ (s : List ℕ) (at : ℕ) where
  first : get_or (drop at s) 0 0 ≡ get_or s at 0
  first = let e : at + 0 ≡ at = omega arith in get_or-drop at s 0 0 ∙ ap (λ (i : ℕ). get_or s i 0) e

  rest : drop 1 (drop at s) ≡ drop (at + 1) s
  rest = drop-drop 1 at s

  zero_byte : get_or s at 0 ≡ 0 → eqb (get_or (drop at s) 0 0) 0 ≡ true
  zero_byte e = eq-eqb _ _ (first ∙ e)

  other_byte : get_or s at 0 ≢ 0 → eqb (get_or (drop at s) 0 0) 0 ≡ false
  other_byte e = ne_eqb _ _ (λ h. e (sym first ∙ h))

  pub plain_read : get_or s at 0 ≡ 0 → Plain ≡ kind_at (drop at s)
  unfolding kind_at
  plain_read e = rw (zero_byte e)

  pub turn_read : {h : Float} → get_or s at 0 ≢ 0 → h ≡ of_bits binary64 (word_of 8 (drop (at + 1) s)) → Turn h ≡ kind_at (drop at s)
  unfolding kind_at
  turn_read {h} n e = rw (other_byte n) (ap Turn (e ∙ ap (λ (b : List ℕ). of_bits binary64 (word_of 8 b)) (sym rest)))

  pub plain_formed : get_or s at 0 ≡ 0 → eqb (word_of 8 (drop (at + 1) s)) 0 ≡ formed (drop at s)
  unfolding formed
  plain_formed e = rw (zero_byte e) (ap (λ (b : List ℕ). eqb (word_of 8 b) 0) (sym rest))

  pub other_formed : get_or s at 0 ≢ 0 → eqb (get_or s at 0) 1 ≡ formed (drop at s)
  unfolding formed
  other_formed n = rw (other_byte n) (ap (λ (c : ℕ). eqb c 1) (sym first))

-- ---- there and back

64-bits : 256 ^ 8 ≡ 2 ^ 64
64-bits = refl

-- a number that the format has is read back, whatever follows
pub number_back : (v : Float) → fits binary64 v ≡ true → (rest : List ℕ) → number_at (number_bytes v ++ rest) ≡ v
unfolding number_at number_bytes
number_back v h rest =
    let t : T (fits binary64 v) = subst T (sym h) tt in
    ap (of_bits binary64) (word_of_little 8 (to_bits binary64 v) rest (to_bits-lt binary64 v t)) ∙ of_bits-to_bits binary64 v t

-- and the bytes of a finite number are written again
finite_no_nan : (v : Float) → finite v ≡ true → T (not (is_nan v))
unfolding is_nan
finite_no_nan nan h = absurd (false≢true h)
finite_no_nan (inf s) h = tt
finite_no_nan (fin s m e) h = tt

pub number_again : (b : List ℕ) → finite (number_at b) ≡ true → 8 ≤ length b → AreBytes b → number_bytes (number_at b) ≡ take 8 b
unfolding number_at number_bytes
number_again b h l a =
    ap (little_endian 8) (to_bits-of_bits binary64 (word_of 8 b) (word_small 8 b a) (finite_no_nan (of_bits binary64 (word_of 8 b)) h)) ∙ little_of_word 8 b l a

both_back : (k : Kind) → kind_fits k ≡ true → (b : List ℕ) → (kind_at (kind_bytes k ++ b) ≡ k) × (formed (kind_bytes k ++ b) ≡ true)
unfolding kind_at kind_bytes formed little_endian word_of
both_back Plain h b = (refl, refl)
both_back (Turn v) h b = (ap Turn (number_back v h b), refl)

pub kind_back : (k : Kind) → kind_fits k ≡ true → (rest : List ℕ) → kind_at (kind_bytes k ++ rest) ≡ k
kind_back k h rest = (both_back k h rest).0

pub kind_formed : (k : Kind) → kind_fits k ≡ true → (rest : List ℕ) → formed (kind_bytes k ++ rest) ≡ true
kind_formed k h rest = (both_back k h rest).1

-- the bytes of a kind that has the form, with a finite half-turn, are written again
abbrev pub sound : List ℕ → Bool
sound b = formed b && finite (half_of (kind_at b))

plain_again : (c : ℕ) (d : List ℕ) → eqb c 0 ≡ true → sound (c ∷ d) ≡ true → 8 ≤ length d → AreBytes d → kind_bytes (kind_at (c ∷ d)) ≡ c ∷ take 8 d
unfolding kind_at kind_bytes formed
plain_again c d e h l a =
    let z : word_of 8 d ≡ 0 = eqb-true _ _ (and_left (eqb (word_of 8 d) 0) true (rw e at h)) in
    rw e (ap₂ ◌∷◌ (sym (eqb-true c 0 e)) (ap (little_endian 8) (sym z) ∙ little_of_word 8 d l a))

turn_again : (c : ℕ) (d : List ℕ) → eqb c 0 ≡ false → sound (c ∷ d) ≡ true → 8 ≤ length d → AreBytes d → kind_bytes (kind_at (c ∷ d)) ≡ c ∷ take 8 d
unfolding kind_at kind_bytes formed
turn_again c d e h l a =
    let g : eqb c 1 && finite (number_at d) ≡ true = rw e at h in
    rw e (ap₂ ◌∷◌ (sym (eqb-true c 1 (and_left (eqb c 1) _ g))) (number_again d (and_right (eqb c 1) _ g) l a))

pub kind_again : (b : List ℕ) → sound b ≡ true → 9 ≤ length b → AreBytes b → kind_bytes (kind_at b) ≡ take 9 b
kind_again [] h l a = absurd (omega arith)
kind_again (c ∷ d) h l a = go (eqb c 0) refl
  where
    go : (t : Bool) → eqb c 0 ≡ t → kind_bytes (kind_at (c ∷ d)) ≡ c ∷ take 8 d
    go true e = plain_again c d e h (omega arith) (λ i. a (suc i))
    go false e = turn_again c d e h (omega arith) (λ i. a (suc i))

-- ---- tests of each piece

pub each_finite : (k : ℕ) (b : List ℕ) → all_true (read_each 8 (λ (c : List ℕ). finite (number_at c)) k b) ≡ all_finite (read_each 8 number_at k b)
unfolding read_each all_finite
each_finite zero b = refl
each_finite (suc k) b = ap (λ (t : Bool). finite (number_at b) && t) (each_finite k (drop 8 b))
