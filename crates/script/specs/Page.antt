-- Bytes that are lent for an answer, and how many of them are used. Definitions only.
use Rattle.std.specs.Prelude.{ℕ, ◌+◌, ◌≡◌, Bool, cond, List, [], ◌∷◌, leb, Float, length}
use Rattle.std.specs.Float.{Format}
use Rattle.std.specs.Float.Ieee.{to_bits}
use Rattle.std.proofs.Math.Seq.{paste}
use Rattle.io.specs.Digits.{last_digits, IsDigitCount}
use Rattle.floats.specs.declared.Verdict.{Verdict}
use Rattle.filter.specs.declared.Stage.{Stage}
use Rattle.filter.specs.declared.Stage.TheVariants.{Shut, Predicting, Correcting, PredictingStepped, CorrectingStepped}
use Rattle.words.specs.Words.{width}

pub record Page : Type 0 where
  pub bytes : List ℕ
  pub used : ℕ

abbrev pub page : List ℕ → ℕ → Page
page l n = record { bytes = l; used = n }

-- s after what is used, where there is room for all of it
abbrev pub put_of : List ℕ → Page → Page
put_of s p = cond (leb (p.used + length s) (length p.bytes)) (page (paste p.bytes p.used s (length s)) (p.used + length s)) p

-- p with the decimal digits of n after what is used, as few as hold it
pub record Decimal (n : ℕ) (p : Page) (used : ℕ) (bytes : List ℕ) : Type 0 where
  pub places : ℕ
  pub fewest : IsDigitCount 10 1 n places
  pub count : used ≡ (put_of (last_digits 10 places n) p).used
  pub text : bytes ≡ (put_of (last_digits 10 places n) p).bytes

-- a refusal, or 0, then a blank and its place; half is the page before the place
pub record Verdicted (v : Verdict) (p : Page) (used : ℕ) (bytes : List ℕ) : Type 0 where
  pub half : Page
  pub number : Decimal v.number p half.used half.bytes
  pub place : Decimal v.place (put_of (32 ∷ []) half) used bytes

-- a blank and 0 or 1
abbrev pub bit_text : Bool → List ℕ
bit_text b = 32 ∷ cond b 49 48 ∷ []

-- what is open: nothing, a prediction or a correction, by the sign - or the letter p or c
abbrev pub stage_sign : Stage → ℕ
stage_sign Shut = 45
stage_sign Predicting = 112
stage_sign Correcting = 99
stage_sign PredictingStepped = 112
stage_sign CorrectingStepped = 99

-- a blank, the word open, a blank and the sign
abbrev pub stage_text : Stage → List ℕ
stage_text s = 32 ∷ 111 ∷ 112 ∷ 101 ∷ 110 ∷ 32 ∷ stage_sign s ∷ []

-- which way it was opened: by the sign - where nothing is, by the letter w with the whole list, by s for one point at a time
abbrev pub way_sign : Stage → ℕ
way_sign Shut = 45
way_sign Predicting = 119
way_sign Correcting = 119
way_sign PredictingStepped = 115
way_sign CorrectingStepped = 115

-- a blank, the word way, a blank and the sign
abbrev pub way_text : Stage → List ℕ
way_text s = 32 ∷ 119 ∷ 97 ∷ 121 ∷ 32 ∷ way_sign s ∷ []

-- the hex digits of a word
unfoldable pub word_text : Format → ℕ → List ℕ
word_text f n = last_digits 16 (width f) n

-- a blank and the word of a float
abbrev pub put_number : Format → Float → Page → Page
put_number f x p = put_of (word_text f (to_bits f x)) (put_of (32 ∷ []) p)

-- the floats of a list, one after another
unfoldable pub put_numbers : Format → List Float → Page → Page
put_numbers f [] p = p
put_numbers f (x ∷ l) p = put_numbers f l (put_number f x p)
