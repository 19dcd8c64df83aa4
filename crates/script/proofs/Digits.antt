-- Bytes read from two digits each, and written so. Assumes nothing.
use mathlib.Core.Path.{◌≡◌, refl, sym, ap, ◌∙◌, subst}
use mathlib.Core.Bool.{Bool, true, false, ◌&&◌, cond}
use mathlib.Core.List.{List, [], ◌∷◌}
use Prim.Native.Nat.{ℕ, suc, ◌+◌, ◌-◌, ◌*◌, ◌/◌, ◌%◌, ◌≤◌, ◌<◌}
use native.Mathlib.Numerals.{add-one}
use native.Mathlib.Omega.{arith}
use borrow.Author.Tests.{leb-true, ltb-true, eqb-true, lt-ltb, le-ltb}
use lib.Dec.{eqb, leb, ltb}
use lib.ListN.{length, get_or, set, drop, drop_of_length-le}
use lib.Seq.{drop-cons}
use Rattle.std.specs.Prelude.{Option, None, Some}
use Rattle.io.specs.Digits.{last_digits, IsDigitCount}
use Rattle.words.specs.Words.{digit_of, digit_in}
use Rattle.words.proofs.Digits.{is_digit, is_no_digit}
use Rattle.script.specs.Text.{found, token_of, part_of, same_bytes}
use Rattle.script.specs.declared.text.Read.{Read}
use Rattle.script.specs.Page.{Page, page, put_of}
use Rattle.script.specs.Hex.{byte_of, pairs_in, Taken, on_byte, bytes_from, some_from, bytes_in, bytes_of, put_byte, put_each, put_bytes}
use Rattle.script.specs.declared.text.Token.{Token}
use Rattle.script.proofs.Sizes.{token_in}
use Rattle.script.proofs.Pages.{Shows, shows, made, same_size, just}

-- two digits of a byte, or one that is none
module _ (s : List ℕ) (i : ℕ) where
  pub both_digits : {a b : ℕ} → Some a ≡ digit_in (get_or s i 0) → Some b ≡ digit_in (get_or s (i + 1) 0) → Some (a * 16 + b) ≡ byte_of s i
  unfolding byte_of
  both_digits {a} {b} e g =
      let p = is_digit (get_or s i 0) e in
      let q = is_digit (get_or s (i + 1) 0) g in
      rw (sym p.1, sym q.1, lt-ltb a 16 p.0, lt-ltb b 16 q.0)

  pub no_high : None ≡ digit_in (get_or s i 0) → None ≡ byte_of s i
  unfolding byte_of
  no_high e = rw (le-ltb (digit_of (get_or s i 0)) 16 (is_no_digit (get_or s i 0) e))

  pub no_low : None ≡ digit_in (get_or s (i + 1) 0) → None ≡ byte_of s i
  unfolding byte_of
  no_low e = rw (le-ltb (digit_of (get_or s (i + 1) 0)) 16 (is_no_digit (get_or s (i + 1) 0) e)) (either (ltb (digit_of (get_or s i 0)) 16) _)
    where
      either : (t : Bool) (n : ℕ) → None ≡ cond (t && false) (Some n) None
      either true n = refl
      either false n = refl

-- what was read and the bytes afterwards, part by part
abbrev pub Ends : Option (Read ℕ) → List ℕ → Taken → Type 0
Ends r l w = (r ≡ w.read) × (l ≡ w.bytes)

ends : {r : Option (Read ℕ)} {l : List ℕ} {w : Taken} → record { read = r; bytes = l } ≡ w → Ends r l w
ends e = (ap (λ (g : Taken). g.read) e, ap (λ (g : Taken). g.bytes) e)

-- i of len bytes of the token are at the front of l, and what is left comes to all of them
pub record Got (s : List ℕ) (at : ℕ) (l₀ : List ℕ) (t : Token) (len i : ℕ) (l : List ℕ) : Type 0 where
  pub few : len ≤ 4096
  pub short : i ≤ len
  pub whole : t.start + 2 * len ≡ t.end
  pub inside : t.end ≤ length s
  pub comes : bytes_from (len - i) s (t.start + 2 * i) i l ≡ bytes_of s at l₀

-- a number of digits that is whole bytes
pub record Paired (d k : ℕ) : Type 0 where
  pub all : 2 * k ≡ d
  pub some : 0 < d
  pub few : k ≤ 4096

paired : {d k : ℕ} → Some k ≡ pairs_in d → Paired d k
paired {d} {k} e = go (ltb 0 d) (leb d 8192) (eqb (d % 2) 0) (ltb-true 0 d) (leb-true d 8192) (eqb-true (d % 2) 0) e
  where
    go : (a b c : Bool) → (a ≡ true → 0 < d) → (b ≡ true → d ≤ 8192) → (c ≡ true → d % 2 ≡ 0) → Some k ≡ cond (a && b && c) (Some (d / 2)) None → Paired d k
    go true true true f g h e =
        let x = f refl in
        let y = g refl in
        let z = h refl in
        let q : k ≡ d / 2 = cc in
        record { all = omega arith; some = x; few = omega arith }
    go true true false f g h e = absurd (cc)
    go true false c f g h e = absurd (cc)
    go false b c f g h e = absurd (cc)

module _ (s : List ℕ) (at : ℕ) (l : List ℕ) {t : Token} (e : t ≡ token_of s at) where
  pub dash : same_bytes (part_of s t) (45 ∷ []) ≡ true → Ends (found 0 t.end) l (bytes_of s at l)
  dash h = ends (rw h at (ap (bytes_in s l) e))

  pub no_pair : same_bytes (part_of s t) (45 ∷ []) ≡ false → None ≡ pairs_in (t.end - t.start) → Ends None l (bytes_of s at l)
  no_pair h p = ends (ap (λ (n : Option ℕ). some_from n s t.start l) p ∙ rw h at (ap (bytes_in s l) e))

  pub got_none : {k : ℕ} → same_bytes (part_of s t) (45 ∷ []) ≡ false → Some k ≡ pairs_in (t.end - t.start) → Got s at l t k 0 l
  got_none {k} h p =
      let w = paired {d = t.end - t.start} {k = k} p in
      record {
        few = w.few;
        short = omega arith;
        whole = omega (arith, w.all, w.some);
        inside = subst (λ (u : Token). u.start < u.end → u.end ≤ length s) (sym e) (token_in s at) (omega (arith, w.some));
        comes =
            ap (λ (n : ℕ). bytes_from n s (t.start + 2 * 0) 0 l) (omega arith) ∙ ap (λ (n : ℕ). bytes_from k s n 0 l) (omega arith)
            ∙ ap (λ (n : Option ℕ). some_from n s t.start l) p ∙ rw h at (ap (bytes_in s l) e);
      }

one : (k : ℕ) (s : List ℕ) (at i : ℕ) (l : List ℕ) → bytes_from (suc k) s at i l ≡ on_byte (byte_of s at) i l (λ m. bytes_from k s (at + 2) (i + 1) m)
unfolding bytes_from
one k s at i l = refl

none : (s : List ℕ) (at i : ℕ) (l : List ℕ) → bytes_from 0 s at i l ≡ record { read = found i at; bytes = l }
unfolding bytes_from
none s at i l = refl

module _ {s : List ℕ} {at : ℕ} {l₀ : List ℕ} {t : Token} {len i : ℕ} {l : List ℕ} (r : Got s at l₀ t len i l) where
  next_one : {b : Option ℕ} → i < len → b ≡ byte_of s (t.start + 2 * i) → on_byte b i l (λ m. bytes_from (len - (i + 1)) s (t.start + 2 * (i + 1)) (i + 1) m) ≡ bytes_of s at l₀
  next_one {b} h e =
      let n : suc (len - (i + 1)) ≡ len - i = omega arith in
      let p : t.start + 2 * (i + 1) ≡ t.start + 2 * i + 2 = omega arith in
      ap (λ (k : ℕ). on_byte b i l (λ m. bytes_from (len - (i + 1)) s k (i + 1) m)) p
      ∙ ap (λ (b : Option ℕ). on_byte b i l (λ m. bytes_from (len - (i + 1)) s (t.start + 2 * i + 2) (i + 1) m)) e
      ∙ sym (one (len - (i + 1)) s (t.start + 2 * i) i l) ∙ ap (λ (k : ℕ). bytes_from k s (t.start + 2 * i) i l) n ∙ r.comes

  pub got_more : {b : ℕ} → i < len → Some b ≡ byte_of s (t.start + 2 * i) → Got s at l₀ t len (i + 1) (set l i b)
  got_more h e = record { few = r.few; short = omega arith; whole = r.whole; inside = r.inside; comes = next_one h e }

  pub got_not : i < len → None ≡ byte_of s (t.start + 2 * i) → Ends None l (bytes_of s at l₀)
  got_not h e = ends (next_one h e)

  pub got_end : len ≤ i → Ends (found len t.end) l (bytes_of s at l₀)
  got_end h =
      let n : 0 ≡ len - i = omega arith in
      let k : len ≡ i = omega (arith, r.short) in
      let p : t.end ≡ t.start + 2 * i = omega (arith, r.whole) in
      ends (ap (λ (k : ℕ). record { read = found k t.end; bytes = l }) k ∙ ap (λ (p : ℕ). record { read = found i p; bytes = l }) p ∙ sym (none s (t.start + 2 * i) i l) ∙ ap (λ (k : ℕ). bytes_from k s (t.start + 2 * i) i l) n ∙ r.comes)

-- two hex digits hold a byte
pub two : (b k : ℕ) {t : List ℕ} → IsDigitCount 16 2 b k → b < 256 → t ≡ last_digits 16 k b → t ≡ last_digits 16 2 b
two b k w h e = e ∙ ap (λ (m : ℕ). last_digits 16 m b) (just 2 b k w h)

-- i bytes are on the page, and what is left comes to the whole
pub record Spelled (s l₀ : List ℕ) (n₀ i : ℕ) (l : List ℕ) (n : ℕ) : Type 0 where
  pub size : length l ≡ length l₀
  pub comes : put_each (drop i s) (page l n) ≡ put_each s (page l₀ n₀)

pub spelled_none : {s l : List ℕ} {n : ℕ} → Spelled s l n 0 l n
spelled_none = record { size = refl; comes = refl }

empty : (p : Page) → p ≡ put_each [] p
unfolding put_each
empty p = refl

module _ {s l₀ : List ℕ} {n₀ i : ℕ} {l : List ℕ} {n : ℕ} (r : Spelled s l₀ n₀ i l n) where
  pub spelled_more : {m : List ℕ} {next : ℕ} → i < length s → Shows next m (put_byte (get_or s i 0) (page l n)) → Spelled s l₀ n₀ (i + 1) m next
  unfolding put_each
  spelled_more {m} {next} h w = record {
    size = ap length w.1 ∙ same_size (last_digits 16 2 (get_or s i 0)) (page l n) ∙ r.size;
    comes = ap (put_each (drop (i + 1) s)) (made w) ∙ step ∙ r.comes;
  }
    where
      step : put_each (drop (i + 1) s) (put_byte (get_or s i 0) (page l n)) ≡ put_each (drop i s) (page l n)
      step = rw (add-one i, drop-cons s i 0 h)

  pub spelled_over : length s ≤ i → Shows n l (put_each s (page l₀ n₀))
  spelled_over h = shows (empty (page l n) ∙ ap (λ (m : List ℕ). put_each m (page l n)) (sym (drop_of_length-le s h)) ∙ r.comes)

-- the sign for none, or a blank and the bytes
pub no_bytes : (s : List ℕ) (p : Page) {l : List ℕ} {n : ℕ} → length s ≡ 0 → Shows n l (put_of (32 ∷ 45 ∷ []) p) → Shows n l (put_bytes s p)
no_bytes [] p e w = w
no_bytes (b ∷ s) p e w = absurd (omega arith)

pub some_bytes : (s : List ℕ) (p : Page) {l m : List ℕ} {n k : ℕ} → (length s ≡ 0 → ⊥) → Shows n l (put_of (32 ∷ []) p) → Shows k m (put_each s (page l n)) → Shows k m (put_bytes s p)
some_bytes [] p h v w = absurd (h refl)
some_bytes (b ∷ s) p h v w = shows (made w ∙ ap (put_each (b ∷ s)) (made v))
