-- Laws of the tests of specs/Numbers.antt: a number between the two infinities is finite; of a number's negative and of its double; a list is all finite where its parts are. Assumes nothing.
use mathlib.Core.Path.{◌≡◌, refl, sym, ap, ◌∙◌}
use mathlib.Core.Bool.{Bool, true, false, ◌&&◌, true≢false, false≢true}
use mathlib.Core.List.{List, [], ◌∷◌, ◌++◌}
use mathlib.Core.Logic.{◌≢◌}
use Prim.Native.Nat.{ℕ, zero, suc, ◌+◌, ◌<◌, ◌≤◌, min}
use native.Mathlib.Numerals.{add-one}
use native.Mathlib.Omega.{arith}
use lib.ListN.{length, take, get_or}
use lib.Seq.{take-suc}
use lib.Dec.{T}
use lib.Ieee.{Float, nan, inf, fin, Format, neg, add, lt}
use lib.Ieee.Scale.{finite}
use Rattle.floats.specs.Numbers.{zeros, all_finite}
use Rattle.floats.proofs.Tests.{and_assoc}

-- ---- one number
pub under_top : (x : Float) → lt x (inf false) ≡ true → lt (inf true) x ≡ finite x
unfolding lt
under_top nan t = refl
under_top (inf true) t = refl
under_top (inf false) t = absurd (false≢true t)
under_top (fin s m e) t = refl

pub not_under_top : (x : Float) → lt x (inf false) ≡ false → false ≡ finite x
unfolding lt
not_under_top nan t = refl
not_under_top (inf s) t = refl
not_under_top (fin s m e) t = absurd (true≢false t)

pub neg_finite : (x : Float) → finite (neg x) ≡ finite x
unfolding neg
neg_finite nan = refl
neg_finite (inf s) = refl
neg_finite (fin s m e) = refl

pub neg_apart : (x : Float) → T (finite x) → x ≢ neg x
unfolding neg
neg_apart nan t e = t
neg_apart (inf s) t e = t
neg_apart (fin true m k) t e = true≢false cc
neg_apart (fin false m k) t e = true≢false cc

pub twice_was_finite : (f : Format) (x : Float) → T (finite (add f x x)) → T (finite x)
unfolding add
twice_was_finite f nan t = t
twice_was_finite f (inf true) t = t
twice_was_finite f (inf false) t = t
twice_was_finite f (fin s m e) t = tt

pub finite_or_not : (x : Float) {A : Type 0} → (T (finite x) → A) → (finite x ≡ false → A) → A
finite_or_not nan k n = n refl
finite_or_not (inf s) k n = n refl
finite_or_not (fin s m e) k n = k tt

-- ---- lists
pub all_append : (xs ys : List Float) → all_finite (xs ++ ys) ≡ (all_finite xs && all_finite ys)
unfolding all_finite
all_append [] ys = refl
all_append (x ∷ xs) ys = ap (λ (b : Bool). finite x && b) (all_append xs ys) ∙ and_assoc (finite x) (all_finite xs) (all_finite ys)

pub all_zeros : (k : ℕ) → all_finite (zeros k) ≡ true
unfolding all_finite zeros
all_zeros zero = refl
all_zeros (suc k) = all_zeros k

-- ---- `all_finite`: the first i numbers have passed
pub record Passed (s : List Float) (i : ℕ) : Type 0 where
  pub is : all_finite (take i s) ≡ true

pub passed_none : {s : List Float} → Passed s 0
unfolding all_finite
passed_none = record { is = refl }

-- what is past its end is nothing
take_past : (k : ℕ) (s : List Float) → length s ≤ k → take k s ≡ s
take_past zero [] h = refl
take_past zero (x ∷ s) h = absurd (omega arith)
take_past (suc k) [] h = refl
take_past (suc k) (x ∷ s) h = ap (λ (l : List Float). x ∷ l) (take_past k s (omega arith))

-- what a list is up to the lesser of its length and k
take_least : (s : List Float) (i k : ℕ) → i ≤ min (length s) k → min (length s) k ≤ i → take i s ≡ take k s
take_least [] zero zero h g = refl
take_least [] zero (suc k) h g = refl
take_least [] (suc i) k h g = absurd (omega arith)
take_least (x ∷ s) zero zero h g = refl
take_least (x ∷ s) zero (suc k) h g = absurd (omega arith)
take_least (x ∷ s) (suc i) zero h g = absurd (omega arith)
take_least (x ∷ s) (suc i) (suc k) h g = ap (λ (l : List Float). x ∷ l) (take_least s i k (omega arith) (omega arith))

bad_in : (s : List Float) (i k : ℕ) → i < length s → i < k → finite (get_or s i nan) ≡ false → all_finite (take k s) ≡ false
unfolding all_finite
bad_in [] i k h g e = absurd (omega arith)
bad_in (x ∷ s) i zero h g e = absurd (omega arith)
bad_in (x ∷ s) zero (suc k) h g e = rw e
bad_in (x ∷ s) (suc i) (suc k) h g e = ap (λ (b : Bool). finite x && b) (bad_in s i k (omega arith) (omega arith) e) ∙ and-false (finite x)
  where
    and-false : (a : Bool) → (a && false) ≡ false
    and-false true = refl
    and-false false = refl

module _ {s : List Float} {i : ℕ} (at : Passed s i) where
  pub passed_more : i < length s → finite (get_or s i nan) ≡ true → Passed s (i + 1)
  unfolding all_finite
  passed_more h t = record { is = rw (add-one, take-suc s i nan h, all_append, at.is, t) }

  pub passed_bad : (k : ℕ) → i < length s → i < k → finite (get_or s i nan) ≡ false → false ≡ all_finite (take k s)
  passed_bad k h g t = sym (bad_in s i k h g t)

  -- past the list's end
  pub passed_over : (k : ℕ) → length s ≤ i → i < k → true ≡ all_finite (take k s)
  passed_over k h g = sym at.is ∙ ap all_finite (take_past i s h ∙ sym (take_past k s (omega arith)))

  -- at the list's end or at k, whichever comes first
  pub passed_end : (k : ℕ) → i ≤ min (length s) k → min (length s) k ≤ i → true ≡ all_finite (take k s)
  passed_end k h g = sym at.is ∙ ap all_finite (take_least s i k h g)
