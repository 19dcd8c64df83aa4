-- Sizes, numbers, lists and kinds as the tokens of a line give them. Definitions only.
use Rattle.std.specs.Prelude.{ℕ, zero, suc, ◌+◌, ◌-◌, ◌*◌, ◌^◌, ◌&&◌, cond, List, [], ◌∷◌, eqb, leb, ltb, Float, get_or, set, Option, None, Some}
use Rattle.std.specs.Float.{Format, binary32, binary64}
use Rattle.std.specs.Float.Ieee.{of_bits}
use Rattle.words.specs.Words.{Word, digit_of, width, word_of}
use Rattle.angles.specs.Kinds.{Kind}
use Rattle.angles.specs.declared.Kind.TheVariants.{Plain, Turn}
use Rattle.script.specs.Text.{found, token_of, part_of, same_bytes}
use Rattle.script.specs.declared.text.Read.{Read}
use Rattle.script.specs.declared.text.Token.{Token}

-- k decimal digits of s from place i on, after those that came to v; no part of a decimal below 2^64 comes to 2^64
unfoldable pub decimal_from : ℕ → List ℕ → ℕ → ℕ → Option (Read ℕ)
decimal_from zero s i v = found v i
decimal_from (suc k) s i v =
    cond (ltb (digit_of (get_or s i 0)) 10 && ltb (v * 10 + digit_of (get_or s i 0)) (2 ^ 64)) (decimal_from k s (i + 1) (v * 10 + digit_of (get_or s i 0))) None

-- a token of one digit or more
abbrev pub size_in : List ℕ → Token → Option (Read ℕ)
size_in s t = cond (ltb t.start t.end) (decimal_from (t.end - t.start) s t.start 0) None

-- the SIZE at place i or after it
abbrev pub size_of : List ℕ → ℕ → Option (Read ℕ)
size_of s i = size_in s (token_of s i)

-- the float with these bits
abbrev pub number_from : Format → ℕ → Word → Option (Read Float)
number_from f next (Some b) = found (of_bits f b) next
number_from f next None = None

-- a token of as many hex digits as a word has
abbrev pub number_in : Format → List ℕ → Token → Option (Read Float)
number_in f s t = cond (eqb t.end (t.start + width f)) (number_from f t.end (word_of f s t.start)) None

-- the F at place i or after it
abbrev pub number_of : Format → List ℕ → ℕ → Option (Read Float)
number_of f s i = number_in f s (token_of s i)

-- what a list was read as, and the lent numbers afterwards
pub record Filled : Type 0 where
  pub read : Option (Read ℕ)
  pub numbers : List Float

-- a number goes to place i of l, and the rest is read from there; what is none ends the list, and l stays as it is by then
abbrev pub on_number : Option (Read Float) → ℕ → List Float → (ℕ → List Float → Filled) → Filled
on_number (Some x) i l rest = rest x.next (set l i x.value)
on_number None i l rest = record { read = None; numbers = l }

-- k numbers from place at of s on, to the places of l from i on
unfoldable pub numbers_from : Format → ℕ → List ℕ → ℕ → ℕ → List Float → Filled
numbers_from f zero s at i l = record { read = found i at; numbers = l }
numbers_from f (suc k) s at i l = on_number (number_of f s at) i l (λ next m. numbers_from f k s next (i + 1) m)

-- a size of at most 512, then that many numbers
abbrev pub on_size : Format → List ℕ → List Float → Option (Read ℕ) → Filled
on_size f s l (Some k) = cond (leb k.value 512) (numbers_from f k.value s k.next 0 l) (record { read = None; numbers = l })
on_size f s l None = record { read = None; numbers = l }

-- the LIST at place i or after it, to the front of l
abbrev pub list_of : Format → List ℕ → ℕ → List Float → Filled
list_of f s i l = on_size f s l (size_of s i)

-- the bits of 2^23 at f32 and of 2^52 at f64, from where on numbers are one apart
abbrev pub mark_bits : Format → ℕ
mark_bits binary32 = 150 * 2 ^ 23
mark_bits binary64 = 1075 * 2 ^ 52

-- the number with those bits, and i more
unfoldable pub mark_of : Format → ℕ → Float
mark_of f i = of_bits f (mark_bits f + i)

-- a turn with the half-turn that was read
abbrev pub turn_of : Option (Read Float) → Option (Read Kind)
turn_of (Some h) = found (Turn h.value) h.next
turn_of None = None

-- 112 is the letter p, and 116 the letter t
abbrev pub kind_in : Format → List ℕ → Token → Option (Read Kind)
kind_in f s t =
    cond (same_bytes (part_of s t) (112 ∷ [])) (found (Plain) t.end)
    (cond (same_bytes (part_of s t) (116 ∷ [])) (turn_of (number_of f s t.end)) None)

-- the KIND at place i or after it
abbrev pub kind_of : Format → List ℕ → ℕ → Option (Read Kind)
kind_of f s i = kind_in f s (token_of s i)
