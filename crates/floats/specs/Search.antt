-- The search of the numbers that come in, slice after slice: the first that isn't finite is refused by its slice, with its place there. Definitions only.
use Rattle.std.specs.Prelude.{ℕ, ◌+◌, Bool, List, [], ◌∷◌, Float}
use Rattle.std.specs.Float.Ieee.Scale.{finite}
use Rattle.floats.specs.declared.Slice.{Slice}
use Rattle.floats.specs.declared.Refusal.TheVariants.{Number as NUMBER}
use Rattle.floats.specs.Refusal.{Outcome, unless, onward, nothing}

-- a slice by its name, with those of its numbers that come in
pub record Input : Type 0 where
  pub name : Slice
  pub numbers : List Float

abbrev pub input : Slice → List Float → List Input
input name numbers = record { name = name; numbers = numbers } ∷ []

-- numbers of a slice, the first of them at place i
unfoldable pub searched_from : Slice → ℕ → List Float → Outcome Bool
searched_from s i [] = nothing
searched_from s i (x ∷ v) = unless (finite x) (NUMBER s i) (searched_from s (i + 1) v)

-- places count from 0 in each slice
unfoldable pub searched : List Input → Outcome Bool
unfolding searched_from
searched [] = nothing
searched (s ∷ l) = onward (searched_from s.name 0 s.numbers) (λ (t : Bool). searched l)
