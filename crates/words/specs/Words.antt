-- A word: the bits of a float in hex digits, as many as the format takes. Definitions only.
use Rattle.std.specs.Prelude.{ℕ, zero, suc, ◌+◌, ◌-◌, ◌*◌, Bool, ◌&&◌, cond, List, leb, ltb, get_or, Option}
use Rattle.std.specs.Float.{Format}
use Rattle.floats.specs.Numbers.{bytes}
-- the bits of a word, or no word
pub use Rattle.std.specs.Prelude.{Some as Bits, None as Bad}

-- what stands where a word should
abbrev pub Word : Type 0
Word = Option ℕ

abbrev pub between : ℕ → ℕ → ℕ → Bool
between a b c = leb a c && leb c b

-- the value of a hex digit of either case, given as its byte; 16 for any other byte
unfoldable pub digit_of : ℕ → ℕ
digit_of c = cond (between 48 57 c) (c - 48) (cond (between 97 102 c) (c - 87) (cond (between 65 70 c) (c - 55) 16))

-- the same where it is a digit
abbrev pub digit_in : ℕ → Option ℕ
digit_in c = cond (ltb (digit_of c) 16) (Bits (digit_of c)) Bad

-- k digits of s from place i on, after those that came to v
unfoldable pub digits_from : ℕ → List ℕ → ℕ → ℕ → Word
unfolding digit_of
digits_from zero s i v = Bits v
digits_from (suc k) s i v = cond (ltb (digit_of (get_or s i 0)) 16) (digits_from k s (i + 1) (v * 16 + digit_of (get_or s i 0))) Bad

-- how many digits a word has: two to a byte
abbrev pub width : Format → ℕ
width f = 2 * bytes f

-- the word that starts at place i
abbrev pub word_of : Format → List ℕ → ℕ → Word
word_of f s i = digits_from (width f) s i 0
