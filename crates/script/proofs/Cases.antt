-- What the definitions come to, case by case: runs, lists of bytes, pages, tokens and what they are read as. Assumes nothing.
use mathlib.Core.Path.{◌≡◌, refl, ap, ◌∙◌}
use mathlib.Core.Bool.{Bool, true, false, ◌&&◌, cond}
use mathlib.Core.List.{List, [], ◌∷◌}
use Prim.Native.Nat.{ℕ, suc, ◌+◌, ◌/◌, ◌%◌, ◌≤◌, ◌<◌}
use native.Mathlib.Numerals.{add-one}
use native.Mathlib.Omega.{arith}
use borrow.Author.Tests.{le-leb, lt-leb, le-ltb, lt-ltb, eq-eqb, ne_eqb}
use lib.Dec.{eqb}
use lib.Ieee.{Float, Format, of_bits}
use lib.ListN.{length, get_or, drop}
use lib.Seq.{drop-cons}
use Rattle.std.specs.Prelude.{Option, None, Some}
use Rattle.angles.specs.declared.Kind.TheVariants.{Plain}
use Rattle.words.specs.Words.{Word, width, word_of}
use Rattle.script.specs.Text.{found, belongs_to, run_of, end_of, part_of, same_bytes}
use Rattle.script.specs.declared.text.Class.{Class}
use Rattle.script.specs.declared.text.Read.{Read}
use Rattle.script.specs.declared.text.Token.{Token}
use Rattle.script.specs.Numbers.{size_in, size_of, number_from, number_in, number_of, numbers_from, on_size, list_of, turn_of, kind_in, mark_bits, mark_of}
use Rattle.script.specs.Page.{page, put_of}
use Rattle.script.specs.Hex.{pairs_in}
use Rattle.script.proofs.Lists.{Ends, Gone}
use Rattle.script.proofs.Pages.{Shows, shows}

-- a run goes on over a byte that belongs to it, and stops at one that does not
run_at : (k : Class) (s : List ℕ) (i : ℕ) → i < length s → run_of k (drop i s) ≡ cond (belongs_to k (get_or s i 0)) (suc (run_of k (drop (suc i) s))) 0
unfolding run_of
run_at k s i h = rw (drop-cons s i 0 h)

pub run_stop : (k : Class) (s : List ℕ) (i : ℕ) → i < length s → belongs_to k (get_or s i 0) ≡ false → end_of k s i ≡ i
run_stop k s i h e =
    let f : run_of k (drop i s) ≡ 0 = run_at k s i h ∙ ap (λ (t : Bool). cond t (suc (run_of k (drop (suc i) s))) 0) e in
    omega arith

pub run_on : (k : Class) (s : List ℕ) (i : ℕ) → i < length s → belongs_to k (get_or s i 0) ≡ true → end_of k s (i + 1) ≡ end_of k s i
run_on k s i h e =
    let f : run_of k (drop i s) ≡ suc (run_of k (drop (suc i) s)) = run_at k s i h ∙ ap (λ (t : Bool). cond t (suc (run_of k (drop (suc i) s))) 0) e in
    let g : run_of k (drop (i + 1) s) ≡ run_of k (drop (suc i) s) = ap (λ (n : ℕ). run_of k (drop n s)) (add-one i) in
    omega arith

-- lists of two lengths differ
pub other_length : (a b : List ℕ) → (length a ≡ length b → ⊥) → same_bytes a b ≡ false
unfolding same_bytes
other_length [] [] h = absurd (h refl)
other_length [] (y ∷ b) h = refl
other_length (x ∷ a) [] h = refl
other_length (x ∷ a) (y ∷ b) h = either (eqb x y) (other_length a b (λ e. h (ap suc e)))
  where
    either : (t : Bool) {u : Bool} → u ≡ false → t && u ≡ false
    either true e = e
    either false e = refl

-- what has no room leaves the page
pub no_room : (s l : List ℕ) (at : ℕ) → length l < at + length s → Shows at l (put_of s (page l at))
no_room s l at h = shows (rw (lt-leb (at + length s) (length l) h))

-- a float's mark, from its bits
pub mark_of_lem : (f : Format) (i : ℕ) {x : Float} → x ≡ of_bits f (mark_bits f + i) → x ≡ mark_of f i
unfolding mark_of
mark_of_lem f i e = e

-- a token of no bytes is no size
pub no_digits : (s : List ℕ) (t : Token) → t.end ≤ t.start → None ≡ size_in s t
no_digits s t h = rw (le-ltb t.start t.end h)

module _ (f : Format) (s : List ℕ) (t : Token) where
  -- a token of another length is no number
  pub other_width : (t.end ≡ t.start + width f → ⊥) → None ≡ number_in f s t
  other_width h = rw (ne_eqb t.end (t.start + width f) h)

  -- a token of a word's length, with what its word is
  pub of_word : {w : Word} → t.end ≡ t.start + width f → w ≡ word_of f s t.start → number_from f t.end w ≡ number_in f s t
  of_word {w} h e = rw (eq-eqb t.end (t.start + width f) h) (ap (λ (u : Word). number_from f t.end u) e)

  -- the letters of a kind
  pub plain_told : same_bytes (part_of s t) (112 ∷ []) ≡ true → found Plain t.end ≡ kind_in f s t
  plain_told h = rw h

  pub no_letter : same_bytes (part_of s t) (112 ∷ []) ≡ false → same_bytes (part_of s t) (116 ∷ []) ≡ false → None ≡ kind_in f s t
  no_letter h g = rw (h, g)

  pub turn_told : {w : Option (Read Float)} → same_bytes (part_of s t) (112 ∷ []) ≡ false → same_bytes (part_of s t) (116 ∷ []) ≡ true → w ≡ number_of f s t.end → turn_of w ≡ kind_in f s t
  turn_told h g e = rw (h, g) (ap turn_of e)

-- a list without its size, or with a size past 512, and one of which no number is read yet
module _ (f : Format) (s : List ℕ) (at : ℕ) (l : List Float) where
  pub no_size : None ≡ size_of s at → Ends None l (list_of f s at l)
  no_size h = (ap (λ (v : Option (Read ℕ)). (on_size f s l v).read) h, ap (λ (v : Option (Read ℕ)). (on_size f s l v).numbers) h)

  pub too_long : {k : Read ℕ} → Some k ≡ size_of s at → 512 < k.value → Ends None l (list_of f s at l)
  too_long {k} h b =
      (rw (lt-leb k.value 512 b) at (ap (λ (v : Option (Read ℕ)). (on_size f s l v).read) h), rw (lt-leb k.value 512 b) at (ap (λ (v : Option (Read ℕ)). (on_size f s l v).numbers) h))

  pub gone_none : {k : Read ℕ} → Some k ≡ size_of s at → k.value ≤ 512 → Gone f s at l k.value 0 k.next l
  gone_none {k} h b = record {
    few = b;
    short = omega arith;
    comes = ap (λ (n : ℕ). numbers_from f n s k.next 0 l) (omega arith) ∙ (rw (le-leb k.value 512 b) at (ap (λ (v : Option (Read ℕ)). on_size f s l v) h));
  }

-- how many bytes so many digits are
pub too_many : (d : ℕ) → 8192 < d → None ≡ pairs_in d
too_many d h = let p : 0 < d = omega arith in rw (lt-ltb 0 d p, lt-leb d 8192 h)

pub half_left : (d : ℕ) → d ≤ 8192 → d % 2 ≡ 1 → None ≡ pairs_in d
half_left d h e = let p : 0 < d = omega arith in rw (lt-ltb 0 d p, le-leb d 8192 h, ne_eqb (d % 2) 0 (λ z. omega arith))

pub all_pairs : (d : ℕ) → 0 < d → d ≤ 8192 → (d % 2 ≡ 1 → ⊥) → Some (d / 2) ≡ pairs_in d
all_pairs d p h e = let z : d % 2 ≡ 0 = omega arith in rw (lt-ltb 0 d p, le-leb d 8192 h, eq-eqb (d % 2) 0 z)
