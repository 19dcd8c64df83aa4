-- A line as bytes: blanks, runs, tokens and the comment. Definitions only.
use Rattle.std.specs.Prelude.{ℕ, suc, ◌+◌, ◌-◌, Bool, true, false, not, ◌&&◌, cond, List, [], ◌∷◌, eqb, leb, length, take, drop, Option, Some}
use Rattle.script.specs.declared.text.Class.{Class}
use Rattle.script.specs.declared.text.Class.TheVariants.{Blank, Mark, Code, Line}
use Rattle.script.specs.declared.text.Read.{Read}
use Rattle.script.specs.declared.text.Token.{Token}

-- a blank: tab, carriage return, space
unfoldable pub is_blank : ℕ → Bool
is_blank c = cond (eqb c 9) true (cond (eqb c 13) true (eqb c 32))

-- 35 is the number sign, which starts a comment; 10 is the newline
abbrev pub belongs_to : Class → ℕ → Bool
belongs_to Blank c = is_blank c
belongs_to Mark c = not (is_blank c)
belongs_to Code c = not (eqb c 35)
belongs_to Line c = not (eqb c 10)

-- what was read, and the place after it
abbrev pub found : {A : Type 0} → A → ℕ → Option (Read A)
found x next = Some (record { value = x; next = next })

-- how many bytes at the front belong to the class
unfoldable pub run_of : Class → List ℕ → ℕ
run_of k [] = 0
run_of k (c ∷ l) = cond (belongs_to k c) (suc (run_of k l)) 0

-- where the run that starts at place i ends
abbrev pub end_of : Class → List ℕ → ℕ → ℕ
end_of k s i = i + run_of k (drop i s)

-- the token at place i or after it: blanks, then what is no blank
abbrev pub token_of : List ℕ → ℕ → Token
token_of s i = record { start = end_of Blank s i; end = end_of Mark s (end_of Blank s i) }

-- the bytes of a token; none where it does not lie in s
abbrev pub part_of : List ℕ → Token → List ℕ
part_of s t = cond (leb t.end (length s) && leb t.start t.end) (take (t.end - t.start) (drop t.start s)) []

unfoldable pub same_bytes : List ℕ → List ℕ → Bool
same_bytes [] [] = true
same_bytes [] (b ∷ m) = false
same_bytes (a ∷ l) [] = false
same_bytes (a ∷ l) (b ∷ m) = eqb a b && same_bytes l m
