-- Bytes put on a page. Assumes nothing.
use mathlib.Core.Path.{◌≡◌, refl, sym, ap, ◌∙◌, subst}
use mathlib.Core.Bool.{Bool, true, false, not, cond}
use mathlib.Core.List.{List, [], ◌∷◌, map}
use Prim.Native.Nat.{ℕ, ◌+◌, ◌-◌, ◌^◌, ◌≤◌, ◌<◌, min, max}
use native.Mathlib.Nat.{zero-lt-suc, pow-le-pow_right}
use native.Mathlib.Numerals.{add-one}
use native.Mathlib.Omega.{arith}
use borrow.Author.Tests.{leb-true, leb-false}
use lib.Dec.{T, leb, ltb, ltb→lt, nltb→le}
use lib.Ieee.{Float, nan, Format, binary32, binary64, to_bits}
use lib.ListN.{length, get_or, take, drop, drop_of_length-le}
use lib.Seq.{paste, length-paste, drop-cons, take_all}
use Rattle.floats.proofs.Numbers.{floats_long, floats_take}
use Rattle.io.specs.Digits.{last_digits, IsDigitCount}
use Rattle.words.specs.Words.{width}
use Rattle.script.specs.Page.{Page, page, put_of, word_text, put_number, put_numbers}

-- how many are used then, and the bytes
abbrev pub Shows : ℕ → List ℕ → Page → Type 0
Shows n l p = (n ≡ p.used) × (l ≡ p.bytes)

pub shows : {n : ℕ} {l : List ℕ} {p : Page} → page l n ≡ p → Shows n l p
shows e = (ap (λ (q : Page). q.used) e, ap (λ (q : Page). q.bytes) e)

pub made : {n : ℕ} {l : List ℕ} {p : Page} → Shows n l p → page l n ≡ p
made {n} {l} {p} (a, b) = ap (λ (m : List ℕ). page m n) b ∙ ap (λ (k : ℕ). page p.bytes k) a

-- a page keeps its length
pub same_size : (s : List ℕ) (p : Page) → length (put_of s p).bytes ≡ length p.bytes
same_size s p = go (leb (p.used + length s) (length p.bytes)) (leb-true _ _)
  where
    go : (t : Bool) → (t ≡ true → p.used + length s ≤ length p.bytes)
        → length (cond t (page (paste p.bytes p.used s (length s)) (p.used + length s)) p).bytes ≡ length p.bytes
    go true f = length-paste p.bytes p.used s (length s) (f refl) (omega arith)
    go false f = refl

-- w hex digits hold a number below 16^w, and no fewer are asked for
pub just : (w n k : ℕ) → IsDigitCount 16 w n k → n < 16 ^ w → k ≡ w
just w n k (least, holds, fewest) h = go (ltb w k) (ltb→lt w k) (nltb→le w k)
  where
    go : (t : Bool) → (T t → w < k) → (T (not t) → k ≤ w) → k ≡ w
    go true f g =
        let l = f tt in
        let m : w ≤ k - 1 = omega arith in
        absurd (omega (arith, fewest l, pow-le-pow_right (zero-lt-suc 15) m))
    go false f g = let l = g tt in omega arith

pub word_text_lem : (f : Format) (n k : ℕ) {l : List ℕ} → IsDigitCount 16 (width f) n k → n < 16 ^ width f → l ≡ last_digits 16 k n → l ≡ word_text f n
unfolding word_text
word_text_lem f n k w h e = e ∙ ap (λ (m : ℕ). last_digits 16 m n) (just (width f) n k w h)

-- the digits of a word, asked for by their number
pub hex_text : (f : Format) {d n k : ℕ} {l : List ℕ} → d ≡ width f → IsDigitCount 16 (min (max d 1) 16) n k → n < 16 ^ width f → l ≡ last_digits 16 k n → l ≡ word_text f n
hex_text f {d} {n} {k} e w h t = word_text_lem f n k (subst (λ (x : ℕ). IsDigitCount 16 x n k) (ap (λ (x : ℕ). min (max x 1) 16) e ∙ within f) w) h t
  where
    within : (f : Format) → min (max (width f) 1) 16 ≡ width f
    within binary32 = refl
    within binary64 = refl

-- a blank, then the text of a word
pub number_put : (f : Format) (x : Float) (l₀ : List ℕ) (n₀ : ℕ) {l₁ l₂ : List ℕ} {n₁ n₂ : ℕ} {t : List ℕ}
    → Shows n₁ l₁ (put_of (32 ∷ []) (page l₀ n₀)) → t ≡ word_text f (to_bits f x) → Shows n₂ l₂ (put_of t (page l₁ n₁))
    → Shows n₂ l₂ (put_number f x (page l₀ n₀))
number_put f x l₀ n₀ {t = t} a e b =
    shows (made b ∙ ap (λ (p : Page). put_of t p) (made a) ∙ ap (λ (u : List ℕ). put_of u (put_of (32 ∷ []) (page l₀ n₀))) e)

-- the first k of a list, as far as it has them
pub front_is : {A : Type 0} (k : ℕ) (s : List A) {n : ℕ} → n ≡ min k (length s) → take n s ≡ take k s
front_is k s {n} e = go (leb k (length s)) (leb-true _ _) (leb-false _ _)
  where
    go : (t : Bool) → (t ≡ true → k ≤ length s) → (t ≡ false → length s < k) → take n s ≡ take k s
    go true f g = let h = f refl in let m : n ≡ k = omega arith in ap (λ (i : ℕ). take i s) m
    go false f g = let h = g refl in take_all n s (omega arith) ∙ sym (take_all k s (omega arith))

-- the same of the numbers that values are
pub front_seen : {A : Type 0} {float : A → Float} {floats : List A → List Float} → ((l : List A) → floats l ≡ map float l) → (k : ℕ) (s : List A) {n : ℕ} → n ≡ min k (length s)
    → floats (take n s) ≡ take k (floats s)
front_seen {floats = floats} law k s {n} e = floats_take law s n ∙ front_is k (floats s) (e ∙ ap (λ (m : ℕ). min k m) (sym (floats_long law s)))

-- i numbers are on the page, and what is left comes to the whole
pub record Printed (f : Format) (s : List Float) (l₀ : List ℕ) (n₀ i : ℕ) (l : List ℕ) (n : ℕ) : Type 0 where
  pub size : length l ≡ length l₀
  pub comes : put_numbers f (drop i s) (page l n) ≡ put_numbers f s (page l₀ n₀)

pub printed_none : {f : Format} {s : List Float} {l : List ℕ} {n : ℕ} → Printed f s l n 0 l n
printed_none = record { size = refl; comes = refl }

empty : (f : Format) (p : Page) → p ≡ put_numbers f [] p
unfolding put_numbers
empty f p = refl

module _ {f : Format} {s : List Float} {l₀ : List ℕ} {n₀ i : ℕ} {l : List ℕ} {n : ℕ} (r : Printed f s l₀ n₀ i l n) where
  pub printed_more : {m : List ℕ} {next : ℕ} → i < length s → Shows next m (put_number f (get_or s i nan) (page l n)) → Printed f s l₀ n₀ (i + 1) m next
  unfolding put_numbers
  printed_more {m} {next} h w = record { size = ap length w.1 ∙ kept ∙ r.size; comes = ap (λ (p : Page). put_numbers f (drop (i + 1) s) p) (made w) ∙ step ∙ r.comes }
    where
      kept : length (put_number f (get_or s i nan) (page l n)).bytes ≡ length l
      kept = same_size (word_text f (to_bits f (get_or s i nan))) (put_of (32 ∷ []) (page l n)) ∙ same_size (32 ∷ []) (page l n)

      step : put_numbers f (drop (i + 1) s) (put_number f (get_or s i nan) (page l n)) ≡ put_numbers f (drop i s) (page l n)
      step = rw (add-one i, drop-cons s i nan h)

  pub printed_over : length s ≤ i → Shows n l (put_numbers f s (page l₀ n₀))
  printed_over h = shows (empty f (page l n) ∙ ap (λ (m : List Float). put_numbers f m (page l n)) (sym (drop_of_length-le s h)) ∙ r.comes)
