-- Laws of two tests, and of a test of every element. Assumes nothing.
use mathlib.Core.Path.{◌≡◌, refl, ap, ◌∙◌}
use mathlib.Core.Bool.{Bool, true, false, ◌&&◌}
use mathlib.Core.List.{List, [], ◌∷◌, ◌++◌}
use Rattle.floats.specs.Tests.{every}

pub and_left : (a b : Bool) → (a && b) ≡ true → a ≡ true
and_left true b h = refl
and_left false b h = h

pub and_right : (a b : Bool) → (a && b) ≡ true → b ≡ true
and_right true b h = h
and_right false true h = refl
and_right false false h = h

pub and_true : (a : Bool) → (a && true) ≡ a
and_true true = refl
and_true false = refl

pub and_assoc : (a b c : Bool) → (a && (b && c)) ≡ ((a && b) && c)
and_assoc true b c = refl
and_assoc false b c = refl

pub every_append : {A : Type 0} (t : A → Bool) (xs ys : List A) → every t (xs ++ ys) ≡ (every t xs && every t ys)
every_append t [] ys = refl
every_append t (x ∷ xs) ys = ap (λ (b : Bool). t x && b) (every_append t xs ys) ∙ and_assoc (t x) (every t xs) (every t ys)
