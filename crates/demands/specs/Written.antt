-- How a worked case is written: numbers as a person writes them, and tests that two answers are the same bit for bit. Definitions only.
use Rattle.std.specs.Prelude.{ℕ, zero, suc, Bool, true, false, ◌&&◌, pos, negsuc, eqb, Float}
use Prim.Native.String.{String}
use mathlib.Core.List.{List, [], ◌∷◌, ◌++◌, map}
use Rattle.std.specs.Float.{fin, binary64}
use Rattle.std.specs.Float.Ieee.{of_int, div, neg, to_bits}

-- k, −k, and a / b. Every one that is written is a number of both formats, so that one table serves both
abbrev pub int : ℕ → Float
int k = of_int binary64 (pos k)

abbrev pub minus : ℕ → Float
minus k = neg (int k)

abbrev pub frac : ℕ → ℕ → Float
frac a b = div binary64 (int a) (int b)

-- 2 ^ k and 2 ^ −k
abbrev pub two_to : ℕ → Float
two_to k = fin false 1 (pos k)

abbrev pub two_to_minus : ℕ → Float
two_to_minus zero = two_to 0
two_to_minus (suc k) = fin false 1 (negsuc k)

-- the same bits, as doubles: an f32 is a double too
infix 50 ◌is◌ ◌are◌
unfoldable pub ◌is◌ : Float → Float → Bool
x is y = eqb (to_bits binary64 x) (to_bits binary64 y)

unfoldable pub ◌are◌ : List Float → List Float → Bool
unfolding ◌is◌
[] are [] = true
[] are (y ∷ ys) = false
(x ∷ xs) are [] = false
(x ∷ xs) are (y ∷ ys) = (x is y) && (xs are ys)

-- a case's name is kept where it fails
abbrev pub kept : Bool → String → List String → List String
kept true s l = l
kept false s l = s ∷ l

-- the names of the cases that fail
abbrev pub failing : List (String × Bool) → List String
failing [] = []
failing (c ∷ cs) = kept c.1 c.0 (failing cs)

-- each with the width of its table
abbrev pub failing_at : List (String × List (String × Bool)) → List (String × String)
failing_at [] = []
failing_at (t ∷ ts) = map (λ (name : String). (t.0, name)) (failing t.1) ++ failing_at ts
