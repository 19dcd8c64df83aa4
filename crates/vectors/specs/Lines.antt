-- A line of the input: 17 bytes, a word and a newline. Definitions only.
use Rattle.std.specs.Prelude.{ℕ, cond, List, eqb, get_or}
use Rattle.std.specs.Float.{binary64}
use Rattle.words.specs.Words.{Word, Bad, word_of}

abbrev pub line_of : List ℕ → Word
line_of l = cond (eqb (get_or l 16 0) 10) (word_of binary64 l 0) Bad
