-- The search of half-turns, each a lone value at place 0: it finds nothing where all are finite, and else 56 at 0. Assumes nothing.
use mathlib.Core.Path.{◌≡◌, refl, sym, ap, ap₂, ◌∙◌}
use mathlib.Core.Bool.{Bool, true, false, ◌&&◌}
use mathlib.Core.List.{List, [], ◌∷◌, ◌++◌}
use Rattle.std.specs.List.{list_all}
use lib.Ieee.Scale.{finite}
use Rattle.floats.specs.declared.Verdict.{Verdict}
use Rattle.floats.specs.Refusal.{bad_lone, earlier, refusal, unless, nothing}
use Rattle.floats.specs.Search.{Input, searched}
use Rattle.floats.proofs.Refusals.{earlier_onward}
use Rattle.floats.proofs.Search.{Found, searched_append}
use Rattle.angles.specs.Kinds.{half_of}
use Rattle.angles.specs.Kinds.{Kind}
use Rattle.filter.specs.Asked.{every}
use Rattle.filter.specs.Load.{turn_inputs}

abbrev pub is_finite : Kind → Bool
is_finite k = finite (half_of k)

turns_searched : (l : List Kind) → searched (turn_inputs l) ≡ unless (every is_finite l) bad_lone nothing
unfolding searched
turns_searched [] = refl
turns_searched (k ∷ l) = go (is_finite k) refl (turns_searched l)
  where
    go : (t : Bool) → is_finite k ≡ t → searched (turn_inputs l) ≡ unless (every is_finite l) bad_lone nothing → searched (turn_inputs (k ∷ l)) ≡ unless (every is_finite (k ∷ l)) bad_lone nothing
    go true e h = rw e h
    go false e h = rw e

-- the library's word for a test of every element
pub every_all : {A : Type 0} (t : A → Bool) (l : List A) → list_all t l ≡ every t l
every_all t [] = refl
every_all t (a ∷ l) = ap (λ (b : Bool). t a && b) (every_all t l)

-- as the code finds it: by whether all are finite
pub found : (l : List Kind) {v : Verdict} (t : Bool) → v ≡ refusal (unless t bad_lone nothing) → t ≡ every is_finite l → v ≡ refusal (searched (turn_inputs l))
found l t e h = e ∙ ap (λ (t : Bool). refusal (unless t bad_lone nothing)) h ∙ ap refusal (sym (turns_searched l))

-- what was found in l, and then in m
pub found_more : {l m : List Input} {u v w : Verdict} → Found l v → Found m w → u ≡ earlier v w → Found (l ++ m) u
found_more {l} {m} d e h = record { is = h ∙ ap₂ earlier d.is e.is ∙ sym (earlier_onward (searched l) (searched m)) ∙ ap refusal (sym (searched_append l m)) }
