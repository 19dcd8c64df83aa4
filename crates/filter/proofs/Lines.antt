-- Lines of the table of calls (`line` of specs/Calls.antt): what its tests say of n and of a slice, and counts of numbers that need only be right at sizes up to 8. Assumes nothing.
use Prim.Native.Nat.{ℕ, ◌≤◌, ◌*◌}
use mathlib.Core.Path.{◌≡◌, refl, ap, ◌∙◌}
use mathlib.Core.Bool.{Bool, true, false, ◌&&◌, cond}
use mathlib.Core.List.{List, [], ◌∷◌, ◌++◌}
use native.Mathlib.Omega.{arith}
use borrow.Author.Tests.{leb-true}
use lib.ListN.{length, take}
use lib.Dec.{leb}
use lib.Ieee.{Float, Format}
use Rattle.floats.specs.declared.Slice.{Slice}
use Rattle.floats.specs.declared.Verdict.{Verdict}
use Rattle.floats.specs.Refusal.{Outcome, refusal, nothing}
use Rattle.floats.specs.Search.{Input, input}
use Rattle.floats.specs.Numbers.{zeros}
use Rattle.floats.specs.Fronts.{front}
use Rattle.filter.specs.Asked.{Size, Lent, of_numbers, Param, Asks, in_range, within, long, every, guarded, first_refusal}
use Rattle.filter.specs.Calls.{sized, lend, line}
use Rattle.filter.proofs.Sizes.{and_left, and_right, range_le, within_8, square_le}
use Rattle.filter.proofs.Order.{Passed}

pub states_le : (n : ℕ) (sizes : List Size) → every within (record { value = n; from = 1; to = 8 } ∷ sizes) ≡ true → n ≤ 8
states_le n sizes e = range_le 1 8 n (and_left (in_range 1 8 n) (every within sizes) e)

pub measured_le : (n m : ℕ) → every within (record { value = n; from = 1; to = 8 } ∷ sized m 1 4) ≡ true → m ≤ 4
measured_le n m e = range_le 1 4 m (and_left (in_range 1 4 m) true (and_right (in_range 1 8 n) (in_range 1 4 m && true) e))

module _ (f : Format) {fits : Bool} {n : ℕ} {sizes : List Size} {stale : Bool} {inputs : List Input} {params : List Param} where
  pub sized_le : {lent : List Lent} → Passed f (line fits n sizes lent stale inputs params) → n ≤ 8
  sized_le p = states_le n sizes p.sized

  pub long_le : {v : List Float} {k : ℕ} {lent : List Lent} → Passed f (line fits n sizes (of_numbers v k ∷ lent) stale inputs params) → k ≤ length v
  long_le {v} {k} {lent} p = leb-true k (length v) (and_left (leb k (length v)) (every long lent) p.long)

  pub two_long : {a v : List Float} {i k : ℕ} {lent : List Lent} → Passed f (line fits n sizes (lend a i ++ (of_numbers v k ∷ lent)) stale inputs params) → k ≤ length v
  two_long {a} {v} {i} {k} {lent} p = leb-true k (length v) (and_left (leb k (length v)) (every long lent) (and_right (leb i (length a)) (leb k (length v) && every long lent) p.long))

-- ---- counts

-- where the sizes don't do, nothing past them matters
unsized : {A : Type 0} (f : Format) (a b : Asks) (o p : Outcome A) → a.fits ≡ b.fits → every within a.sizes ≡ false → every within b.sizes ≡ false → guarded f a o ≡ guarded f b p
unfolding guarded
unsized f a b o p e s t = rw (e, s, t)

module _ {A : Type 0} (f : Format) (fits : Bool) (n : ℕ) (lent : ℕ → List Lent) (stale : Bool) (inputs : ℕ → List Input) (o : ℕ → Outcome A) where
  pub counted : {j k : ℕ} → (n ≤ 8 → j ≡ k) → guarded f (line fits n [] (lent j) stale (inputs j) []) (o j) ≡ guarded f (line fits n [] (lent k) stale (inputs k) []) (o k)
  counted {j} {k} h = go (every within (record { value = n; from = 1; to = 8 } ∷ [])) refl
    where
      go : (t : Bool) → every within (record { value = n; from = 1; to = 8 } ∷ []) ≡ t → guarded f (line fits n [] (lent j) stale (inputs j) []) (o j) ≡ guarded f (line fits n [] (lent k) stale (inputs k) []) (o k)
      go true e = ap (λ (i : ℕ). guarded f (line fits n [] (lent i) stale (inputs i) []) (o i)) (h (states_le n [] e))
      go false e = unsized f _ _ (o j) (o k) refl e e

module _ (f : Format) (fits : Bool) (n : ℕ) (lent : ℕ → List Lent) (stale : Bool) (inputs : ℕ → List Input) where
  pub counted_first : {j k : ℕ} → (n ≤ 8 → j ≡ k) → first_refusal f (line fits n [] (lent j) stale (inputs j) []) ≡ first_refusal f (line fits n [] (lent k) stale (inputs k) [])
  unfolding first_refusal
  counted_first h = ap refusal (counted f fits n lent stale inputs (λ (i : ℕ). nothing) h)

-- a call that takes in the first k numbers of one slice
pub slice_first : (f : Format) (s : Slice) (v : List Float) {r : Verdict} {n j k : ℕ} {b fits : Bool} → r ≡ first_refusal f (line b n [] (lend v j) false (input s (take j v)) []) → b ≡ fits → (n ≤ 8 → j ≡ k) → r ≡ first_refusal f (line fits n [] (lend v k) false (input s (take k v)) [])
slice_first f s v {n = n} {j = j} {fits = fits} e d h =
    e ∙ ap (λ (b : Bool). first_refusal f (line b n [] (lend v j) false (input s (take j v)) [])) d ∙ counted_first f fits n (λ (i : ℕ). lend v i) false (λ (i : ℕ). input s (take i v)) h

-- the same of a matrix of n·n numbers, counted by `square`: what is asked, that it is there, and what is made of it
module _ (f : Format) (s : Slice) (v : List Float) (n : ℕ) {k : ℕ} (e : k ≡ cond (leb n 8) (n * n) 0) {fits : Bool} where
  pub matrix_first : {r : Verdict} {b : Bool} → r ≡ first_refusal f (line b n [] (lend v k) false (input s (take k v)) []) → b ≡ fits → r ≡ first_refusal f (line fits n [] (lend v (n * n)) false (input s (take (n * n) v)) [])
  matrix_first d h = slice_first f s v d h (λ g. e ∙ within_8 n (n * n) g)

  module _ (p : Passed f (line fits n [] (lend v (n * n)) false (input s (take (n * n) v)) [])) where
    pub matrix_in : (k ≤ length v) × (k ≤ 64)
    matrix_in = let h = sized_le f p in omega (arith, e ∙ within_8 n (n * n) h, square_le n h, long_le f p)

    pub matrix_is : {m : List Float} → m ≡ front k v (zeros 64) → m ≡ front (n * n) v (zeros 64)
    matrix_is d = d ∙ ap (λ (j : ℕ). front j v (zeros 64)) (e ∙ within_8 n (n * n) (sized_le f p))
