-- Numbers and residual kinds as bytes: a number is eight bytes, its f64 bits little-endian; a kind is a byte (0 plain, 1 turn) and eight bytes of h, all zero if plain. And lists of such pieces. A byte is a number below 256. Definitions only.
use Rattle.std.specs.Prelude.{ℕ, zero, suc, ◌+◌, ◌*◌, ◌/◌, ◌%◌, ◌<◌, Bool, true, cond, List, [], ◌∷◌, ◌++◌, eqb, drop, get_or, Float}
use Rattle.std.specs.Float.{binary64}
use Rattle.std.specs.Float.Ieee.{fits, of_bits, to_bits}
use Rattle.floats.specs.Tests.{every}
use Rattle.angles.specs.declared.Kind.TheVariants.{Plain, Turn}
use Rattle.angles.specs.Kinds.{Kind}

-- ---- little-endian: v in k bytes, lowest first; and what the first k bytes come to

unfoldable pub little_endian : ℕ → ℕ → List ℕ
little_endian zero v = []
little_endian (suc k) v = v % 256 ∷ little_endian k (v / 256)

unfoldable pub word_of : ℕ → List ℕ → ℕ
word_of zero b = 0
word_of (suc k) [] = 0
word_of (suc k) (c ∷ b) = c + 256 * word_of k b

-- ---- a number

unfoldable pub number_bytes : Float → List ℕ
unfolding little_endian
number_bytes v = little_endian 8 (to_bits binary64 v)

unfoldable pub number_at : List ℕ → Float
unfolding word_of
number_at b = of_bits binary64 (word_of 8 b)

-- ---- a kind

unfoldable pub kind_bytes : Kind → List ℕ
unfolding number_bytes
kind_bytes Plain = 0 ∷ little_endian 8 0
kind_bytes (Turn h) = 1 ∷ number_bytes h

unfoldable pub kind_at : List ℕ → Kind
unfolding number_at
kind_at b = cond (eqb (get_or b 0 0) 0) Plain (Turn (number_at (drop 1 b)))

-- the kind byte is 0 or 1, and the h bytes are zero if it is 0
unfoldable pub formed : List ℕ → Bool
unfolding word_of
formed b = cond (eqb (get_or b 0 0) 0) (eqb (word_of 8 (drop 1 b)) 0) (eqb (get_or b 0 0) 1)

-- ---- several, one after the other

module _ {A : Type 0} where
  unfoldable pub written : (A → List ℕ) → List A → List ℕ
  written to [] = []
  written to (a ∷ l) = to a ++ written to l

  -- k of them, each read from the front of what is left, w bytes on from the one before
  unfoldable pub read_each : ℕ → (List ℕ → A) → ℕ → List ℕ → List A
  read_each w from zero b = []
  read_each w from (suc k) b = from b ∷ read_each w from k (drop w b)

abbrev pub all_true : List Bool → Bool
all_true l = every (λ (t : Bool). t) l

-- ---- what laws about them speak of

-- every element is a byte
abbrev pub AreBytes : List ℕ → Type 0
AreBytes b = (i : ℕ) → get_or b i 0 < 256

-- the number of a turn is a value that an f64 has
abbrev pub kind_fits : Kind → Bool
kind_fits Plain = true
kind_fits (Turn h) = fits binary64 h
