-- The listed results of the steps, checked in running order: the first that fails decides. Definitions only.
use Rattle.std.specs.Prelude.{ℕ, ◌≡◌, Bool, true, false, List, [], ◌∷◌, ◌++◌, take, Float}
use Rattle.floats.specs.declared.Refusal.{Refusal}
use Rattle.floats.specs.declared.Refusal.TheVariants.{Range as RANGE}
use Rattle.floats.specs.Refusal.{bad_lone, Outcome, accepted, unless, onward}
use Rattle.floats.specs.Numbers.{all_finite, above_zero}
use Rattle.root.specs.Definition.{rooted}

-- ---- results

pub data Result : Type 0 where
  -- numbers that have to be finite: 9
  numbers : List Float → Result
  -- a pivot, tested before its root is taken, by the refusal that its matrix and its row have: 7 for P, 8 for S
  pivot : Refusal → Float → Result
  -- a number whose root is taken: 56
  rooting : Float → Result

abbrev pub good : Result → Bool
good (numbers v) = all_finite v
good (pivot r x) = above_zero x
good (rooting x) = rooted x

abbrev pub refusal_of : Result → Refusal
refusal_of (numbers v) = RANGE
refusal_of (pivot r x) = r
refusal_of (rooting x) = bad_lone

-- of the results in running order, the first that fails is refused by r
pub data First : Refusal → List Result → Type 0 where
  now : {v : Result} {vs : List Result} → good v ≡ false → First (refusal_of v) (v ∷ vs)
  later : {r : Refusal} {v : Result} {vs : List Result} → good v ≡ true → First r vs → First r (v ∷ vs)

-- ---- a work: its results in running order, and what it has made once all have passed. Each result is worked out from those before it.

pub data Work (A : Type 0) : Type 0 where
  made : A → Work A
  check : Result → Work A → Work A

module _ {A : Type 0} where
  unfoldable pub worked : Work A → Outcome A
  worked (made a) = accepted a
  worked (check v w) = unless (good v) (refusal_of v) (worked w)

  abbrev pub results : Work A → List Result
  results (made a) = []
  results (check v w) = v ∷ results w

  abbrev pub product : Work A → A
  product (made a) = a
  product (check v w) = product w

  abbrev pub then : {B : Type 0} → Work A → (A → Work B) → Work B
  then (made a) k = k a
  then (check v w) k = check v (then w k)

-- v, of which the first k numbers are in use and are checked
abbrev pub listed : ℕ → List Float → Work (List Float)
listed k v = check (numbers (take k v)) (made v)

-- ---- a plan: works one after the other, each from what those before it have made

pub data Plan (A : Type 0) : Type 1 where
  finish : A → Plan A
  after : {B : Type 0} → Work B → (B → Plan A) → Plan A

module _ {A : Type 0} where
  unfoldable pub run : Plan A → Outcome A
  unfolding worked
  run (finish a) = accepted a
  run (after w k) = onward (worked w) (λ b. run (k b))

  abbrev pub planned : Plan A → List Result
  planned (finish a) = []
  planned (after w k) = results w ++ planned (k (product w))

-- the same plan with its answer passed through g
abbrev pub mapped : {A B : Type 0} → (A → B) → Plan A → Plan B
mapped g (finish a) = finish (g a)
mapped g (after w k) = after w (λ b. mapped g (k b))
