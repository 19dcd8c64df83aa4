-- Bytes in hex digits, two to a byte, as a token gives them and as an answer shows them. Definitions only.
use Rattle.std.specs.Prelude.{ℕ, zero, suc, ◌+◌, ◌-◌, ◌*◌, ◌/◌, ◌%◌, ◌&&◌, cond, List, [], ◌∷◌, eqb, leb, ltb, get_or, set, Option, None, Some}
use Rattle.io.specs.Digits.{last_digits}
use Rattle.words.specs.Words.{digit_of}
use Rattle.script.specs.Page.{Page, put_of}
use Rattle.script.specs.Text.{found, token_of, part_of, same_bytes}
use Rattle.script.specs.declared.text.Read.{Read}
use Rattle.script.specs.declared.text.Token.{Token}

-- the byte of the digits at places i and i + 1 of s; none where one of them is none
unfoldable pub byte_of : List ℕ → ℕ → Option ℕ
byte_of s i =
    cond (ltb (digit_of (get_or s i 0)) 16 && ltb (digit_of (get_or s (i + 1) 0)) 16) (Some (digit_of (get_or s i 0) * 16 + digit_of (get_or s (i + 1) 0))) None

-- how many bytes d digits are: one or more, at most 4096, and no half byte
abbrev pub pairs_in : ℕ → Option ℕ
pairs_in d = cond (ltb 0 d && leb d 8192 && eqb (d % 2) 0) (Some (d / 2)) None

-- what was read, and the lent bytes afterwards
pub record Taken : Type 0 where
  pub read : Option (Read ℕ)
  pub bytes : List ℕ

-- a byte goes to place i of l, and the rest is read from there; what is none ends them, and l stays as it is by then
abbrev pub on_byte : Option ℕ → ℕ → List ℕ → (List ℕ → Taken) → Taken
on_byte (Some b) i l rest = rest (set l i b)
on_byte None i l rest = record { read = None; bytes = l }

-- k bytes from place at of s on, to the places of l from i on
unfoldable pub bytes_from : ℕ → List ℕ → ℕ → ℕ → List ℕ → Taken
bytes_from zero s at i l = record { read = found i at; bytes = l }
bytes_from (suc k) s at i l = on_byte (byte_of s at) i l (λ m. bytes_from k s (at + 2) (i + 1) m)

-- so many bytes, to the front of l
abbrev pub some_from : Option ℕ → List ℕ → ℕ → List ℕ → Taken
some_from (Some k) s at l = bytes_from k s at 0 l
some_from None s at l = record { read = None; bytes = l }

-- 45 is the sign -, for none
abbrev pub bytes_in : List ℕ → List ℕ → Token → Taken
bytes_in s l t = cond (same_bytes (part_of s t) (45 ∷ [])) (record { read = found 0 t.end; bytes = l }) (some_from (pairs_in (t.end - t.start)) s t.start l)

-- the BYTES at place i or after it, to the front of l
abbrev pub bytes_of : List ℕ → ℕ → List ℕ → Taken
bytes_of s i l = bytes_in s l (token_of s i)

-- what place i of a lent buffer holds: a0 and i more, without their carry
abbrev pub byte_mark : ℕ → ℕ
byte_mark i = (160 + i) % 256

abbrev pub put_byte : ℕ → Page → Page
put_byte b p = put_of (last_digits 16 2 b) p

-- the bytes of a list, one after another
unfoldable pub put_each : List ℕ → Page → Page
put_each [] p = p
put_each (b ∷ l) p = put_each l (put_byte b p)

-- a blank, and the bytes or the sign - for none
abbrev pub put_bytes : List ℕ → Page → Page
put_bytes [] p = put_of (32 ∷ 45 ∷ []) p
put_bytes (b ∷ l) p = put_each (b ∷ l) (put_of (32 ∷ []) p)
