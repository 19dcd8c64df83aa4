-- The bytes of a word are those of the library's `to_le_bytes` and `from_le_bytes`. Assumes nothing.
use Rattle.std.proofs.Common.{◌≡◌, ℕ, zero, suc, ◌+◌, ◌-◌, ◌*◌, ◌/◌, ◌%◌, ◌^◌, ◌≤◌, List, [], ◌∷◌, ◌++◌, length, get_or, take, drop, refl, append_assoc, sym, ap, ap₂, ◌∙◌, arith}
use Rattle.std.proofs.Math.Nat.{div-div-eq-div-mul, pow-succ', mul_comm}
use Rattle.std.specs.Int.{byte_at, bytes_low_first, byte_worth, sum_through, to_le_bytes, from_le_bytes, w64}
use Rattle.std.proofs.Math.Seq.{sets, sets-eq, drop-drop}
use borrow.Rule.Slice.PartMut.{put_mid}
use Rattle.pieces.specs.Bytes.{little_endian, word_of}
use Rattle.pieces.proofs.Laws.{length_little}

-- ---- written

low_byte : (i n : ℕ) → byte_at i n ≡ n / 256 ^ i % 256
low_byte zero n = omega arith
low_byte (suc i) n = refl

next_low : (i n : ℕ) → n / 256 ^ i / 256 ≡ n / 256 ^ suc i
next_low i n = div-div-eq-div-mul n (256 ^ i) 256 ∙ ap (λ (m : ℕ). n / m) (mul_comm (256 ^ i) 256 ∙ sym (pow-succ' 256 i))

low_bytes : (i k n : ℕ) → bytes_low_first i k n ≡ little_endian k (n / 256 ^ i)
unfolding little_endian
low_bytes i zero n = refl
low_bytes i (suc k) n = ap₂ ◌∷◌ (low_byte i n) (low_bytes (suc i) k n ∙ ap (little_endian k) (sym (next_low i n)))

word_bytes : (v : ℕ) → to_le_bytes w64 v ≡ little_endian 8 v
word_bytes v = let e : v / 256 ^ 0 ≡ v = omega arith in low_bytes 0 8 v ∙ ap (little_endian 8) e

-- a part that is written over is stored from its place on
put_mid-sets : (l : List ℕ) (i k : ℕ) (v : List ℕ) → length v ≡ k → i + k ≤ length l → put_mid i k l v ≡ sets l i v
put_mid-sets l i k v e h =
    ap (λ (r : List ℕ). take i l ++ (v ++ r)) (drop-drop k i l ∙ ap (λ (n : ℕ). drop (i + n) l) (sym e)) ∙ sym (append_assoc (take i l) v (drop (i + length v) l))
    ∙ sym (sets-eq v l i (omega arith))

pub word_put : (out : List ℕ) (at v : ℕ) (b : List ℕ) → at + 8 ≤ length out → b ≡ to_le_bytes w64 v → put_mid at (at + 8 - at) out b ≡ sets out at (little_endian 8 v)
word_put out at v b h e =
    let k : at + 8 - at ≡ 8 = omega arith in
    let n : length b ≡ 8 = ap length (e ∙ word_bytes v) ∙ length_little 8 v in
    ap (λ (i : ℕ). put_mid at i out b) k ∙ put_mid-sets out at 8 b n h ∙ ap (sets out at) (e ∙ word_bytes v)

-- ---- read

-- the first bytes are all that counts
word_of-take : (k : ℕ) (b : List ℕ) → word_of k (take k b) ≡ word_of k b
unfolding word_of
word_of-take zero b = refl
word_of-take (suc k) [] = refl
word_of-take (suc k) (c ∷ b) = ap (λ (x : ℕ). c + 256 * x) (word_of-take k b)

-- one byte more
word_of-more : (k : ℕ) (b : List ℕ) → word_of (suc k) b ≡ word_of k b + get_or b k 0 * 256 ^ k
unfolding word_of
word_of-more zero [] = refl
word_of-more zero (c ∷ b) = omega arith
word_of-more (suc k) [] = omega arith
word_of-more (suc k) (c ∷ b) = ap (λ (x : ℕ). c + 256 * x) (word_of-more k b) ∙ rw (pow-succ' 256 k) (omega arith)

worth_sum : (k : ℕ) (b : List ℕ) → sum_through (λ i. byte_worth i (get_or b i 0)) k ≡ word_of (suc k) b
unfolding word_of
worth_sum zero [] = refl
worth_sum zero (c ∷ b) = omega arith
worth_sum (suc k) b = ap (λ (x : ℕ). x + get_or b (suc k) 0 * 256 ^ suc k) (worth_sum k b) ∙ sym (word_of-more (suc k) b)

pub word_read : (s : List ℕ) (at : ℕ) (b : List ℕ) → b ≡ take (at + 8 - at) (drop at s) → from_le_bytes w64 b ≡ word_of 8 (drop at s)
word_read s at b e =
    let k : at + 8 - at ≡ 8 = omega arith in
    worth_sum 7 b ∙ ap (word_of 8) (e ∙ ap (λ (n : ℕ). take n (drop at s)) k) ∙ word_of-take 8 (drop at s)
