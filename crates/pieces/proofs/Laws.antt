-- Little-endian there and back, and a list of pieces there and back. Assumes nothing.
use Prim.Native.Nat.{ℕ, zero, suc, ◌+◌, ◌*◌, ◌/◌, ◌%◌, ◌^◌, ◌≤◌, ◌<◌}
use mathlib.Core.Path.{◌≡◌, refl, sym, ap, ap₂, ◌∙◌}
use mathlib.Core.Bool.{Bool, true, ◌&&◌}
use mathlib.Core.List.{List, [], ◌∷◌, ◌++◌, append_assoc}
use native.Mathlib.Nat.{pow-succ', zero-add, suc-add, mul-zero}
use native.Mathlib.Omega.{arith}
use lib.ListN.{length, take, drop, length-append, length-drop}
use lib.Seq.{drop_at, take-add, drop-drop, get_or-drop}
use Rattle.floats.specs.Tests.{every}
use Rattle.floats.proofs.Tests.{and_left, and_right}
use Rattle.pieces.specs.Bytes.{AreBytes, little_endian, word_of, written, read_each, all_true}

-- ---- little-endian

pub length_little : (k v : ℕ) → length (little_endian k v) ≡ k
unfolding little_endian
length_little zero v = refl
length_little (suc k) v = ap suc (length_little k (v / 256))

pub word_of_little : (k v : ℕ) (rest : List ℕ) → v < 256 ^ k → word_of k (little_endian k v ++ rest) ≡ v
unfolding little_endian word_of
word_of_little zero v rest h = omega arith
word_of_little (suc k) v rest h =
    let e : v / 256 < 256 ^ k = omega (arith, pow-succ' 256 k) in
    ap (λ (x : ℕ). v % 256 + 256 * x) (word_of_little k (v / 256) rest e) ∙ omega arith

module _ (c : ℕ) (b : List ℕ) (h : AreBytes (c ∷ b)) where
  first_byte : c < 256
  first_byte = h 0

  other_bytes : AreBytes b
  other_bytes i = h (suc i)

pub bytes_drop : (w : ℕ) (b : List ℕ) → AreBytes b → AreBytes (drop w b)
bytes_drop w b h i = rw (get_or-drop w b i 0) (h (w + i))

pub word_small : (k : ℕ) (b : List ℕ) → AreBytes b → word_of k b < 256 ^ k
unfolding word_of
word_small zero b h = omega arith
word_small (suc k) [] h = omega (arith, pow-succ' 256 k, word_small k [] h)
word_small (suc k) (c ∷ b) h = omega (arith, pow-succ' 256 k, first_byte c b h, word_small k b (other_bytes c b h))

pub little_of_word : (k : ℕ) (b : List ℕ) → k ≤ length b → AreBytes b → little_endian k (word_of k b) ≡ take k b
unfolding little_endian word_of
little_of_word zero b l h = refl
little_of_word (suc k) [] l h = absurd (omega arith)
little_of_word (suc k) (c ∷ b) l h =
    let s = first_byte c b h in
    let low : (c + 256 * word_of k b) % 256 ≡ c = omega arith in
    let high : (c + 256 * word_of k b) / 256 ≡ word_of k b = omega arith in
    ap₂ ◌∷◌ low (ap (little_endian k) high ∙ little_of_word k b (omega arith) (other_bytes c b h))

-- ---- lists of pieces

module _ {A : Type 0} (w : ℕ) (from : List ℕ → A) where
  pub length_read : (k : ℕ) (b : List ℕ) → length (read_each w from k b) ≡ k
  unfolding read_each
  length_read zero b = refl
  length_read (suc k) b = ap suc (length_read k (drop w b))

  -- the first of them, and those after the first
  pub read_add : (i j : ℕ) (b : List ℕ) → read_each w from (i + j) b ≡ read_each w from i b ++ read_each w from j (drop (w * i) b)
  unfolding read_each
  read_add zero j b = rw (zero-add j, mul-zero w)
  read_add (suc i) j b = rw (suc-add i j) (ap (λ (l : List A). from b ∷ l) (read_add i j (drop w b) ∙ ap (λ (c : List ℕ). read_each w from i (drop w b) ++ read_each w from j c) (drop-drop (w * i) w b ∙ ap (λ (n : ℕ). drop n b) (mul_suc' i))))
    where
      mul_suc' : (i : ℕ) → w + w * i ≡ w * suc i
      mul_suc' i = omega arith

module _ {A : Type 0} (to : A → List ℕ) where
  pub written_append : (l m : List A) → written to (l ++ m) ≡ written to l ++ written to m
  unfolding written
  written_append [] m = refl
  written_append (a ∷ l) m = ap (λ (b : List ℕ). to a ++ b) (written_append l m) ∙ sym (append_assoc (to a) (written to l) (written to m))

module _ {A : Type 0} (w : ℕ) (to : A → List ℕ) (from : List ℕ → A) where
  module _ (same : (a : A) → length (to a) ≡ w) where
    pub length_written : (l : List A) → length (written to l) ≡ w * length l
    unfolding written
    length_written [] = sym (mul-zero w)
    length_written (a ∷ l) = length-append (to a) (written to l) ∙ ap₂ ◌+◌ (same a) (length_written l) ∙ omega arith

    -- what is written is read back, whatever follows, where each piece is
    pub read_written : (ok : A → Bool) → ((a : A) → ok a ≡ true → (rest : List ℕ) → from (to a ++ rest) ≡ a)
        → (l : List A) → every ok l ≡ true → (rest : List ℕ) → read_each w from (length l) (written to l ++ rest) ≡ l
    unfolding written read_each
    read_written ok back [] h rest = refl
    read_written ok back (a ∷ l) h rest =
        ap₂ ◌∷◌ (ap from (append_assoc (to a) (written to l) rest) ∙ back a (and_left _ _ h) (written to l ++ rest))
        (ap (λ (b : List ℕ). read_each w from (length l) b) (ap (drop w) (append_assoc (to a) (written to l) rest) ∙ drop_at (to a) (written to l ++ rest) w (same a))
        ∙ read_written ok back l (and_right (ok a) _ h) rest)

  -- what is read is written as the bytes that were read, where each piece is
  pub written_read : (ok : List ℕ → Bool) → ((b : List ℕ) → ok b ≡ true → w ≤ length b → AreBytes b → to (from b) ≡ take w b)
      → (k : ℕ) (b : List ℕ) → w * k ≤ length b → AreBytes b → all_true (read_each w ok k b) ≡ true → written to (read_each w from k b) ≡ take (w * k) b
  unfolding written read_each
  written_read ok back zero b l h t = rw (mul-zero w)
  written_read ok back (suc k) b l h t =
      let m : w * suc k ≡ w + w * k = omega arith in
      rw m
      (rw (take-add w (w * k) b)
      (ap₂ ◌++◌ (back b (and_left _ _ t) (omega arith) h)
      (written_read ok back k (drop w b) (rw (length-drop w b) (omega arith)) (bytes_drop w b h) (and_right (ok b) _ t))))

  -- a test that each piece passes as it is written, each passes as it is read
  pub read_all : (same : (a : A) → length (to a) ≡ w) (ok : A → Bool) (test : List ℕ → Bool) → ((a : A) → ok a ≡ true → (rest : List ℕ) → test (to a ++ rest) ≡ true)
      → (l : List A) → every ok l ≡ true → (rest : List ℕ) → all_true (read_each w test (length l) (written to l ++ rest)) ≡ true
  unfolding written read_each
  read_all same ok test good [] h rest = refl
  read_all same ok test good (a ∷ l) h rest =
      ap₂ (λ (s t : Bool). s && t) (ap test (append_assoc (to a) (written to l) rest) ∙ good a (and_left _ _ h) (written to l ++ rest))
      (ap (λ (b : List ℕ). all_true (read_each w test (length l) b)) (ap (drop w) (append_assoc (to a) (written to l) rest) ∙ drop_at (to a) (written to l ++ rest) w (same a))
      ∙ read_all same ok test good l (and_right (ok a) _ h) rest)
