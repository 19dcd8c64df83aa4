-- Laws of the search of the numbers that come in (specs/Search.antt): it goes on slice after slice, and finds nothing where all are finite; then the turns of `first_bad`. Assumes nothing.
use Prim.Native.Nat.{ℕ, zero, suc, ◌+◌, ◌<◌}
use mathlib.Core.Path.{◌≡◌, refl, sym, ap, ◌∙◌}
use mathlib.Core.Bool.{Bool, true, false, ◌&&◌, false≢true}
use mathlib.Core.List.{List, [], ◌∷◌, ◌++◌}
use native.Mathlib.Omega.{arith}
use lib.ListN.{length, take, get_or}
use lib.Ieee.{Float, nan}
use lib.Ieee.Scale.{finite}
use Rattle.floats.specs.declared.Slice.{Slice}
use Rattle.floats.specs.declared.Verdict.{Verdict}
use Rattle.floats.specs.declared.Refusal.{Refusal}
use Rattle.floats.specs.declared.Refusal.TheVariants.{Number as NUMBER}
use Rattle.floats.specs.Refusal.{verdict, taken, earlier, Outcome, refused, accepted, refusal, unless, onward, nothing}
use Rattle.floats.specs.Numbers.{all_finite}
use Rattle.floats.specs.Search.{Input, input, searched_from, searched}
use Rattle.floats.proofs.Refusals.{number, slice_above, number_above, refused_never, earlier_onward}

-- ---- one slice

-- it finds nothing just where all are finite
pub none_bad : (s : Slice) (i : ℕ) (v : List Float) → all_finite v ≡ true → searched_from s i v ≡ nothing
unfolding searched_from all_finite
none_bad s i [] e = refl
none_bad s i (x ∷ v) e = go (finite x) (none_bad s (i + 1) v) e
  where
    go : (b : Bool) → (all_finite v ≡ true → searched_from s (i + 1) v ≡ nothing) → (b && all_finite v) ≡ true → unless b (NUMBER s i) (searched_from s (i + 1) v) ≡ nothing
    go true k e = k e
    go false k e = absurd (false≢true e)

pub all_good : (s : Slice) (i : ℕ) (v : List Float) {t : Bool} → searched_from s i v ≡ accepted t → all_finite v ≡ true
unfolding searched_from all_finite
all_good s i [] e = refl
all_good s i (x ∷ v) {t} e = go (finite x) (λ d. all_good s (i + 1) v d) e
  where
    go : (b : Bool) → (searched_from s (i + 1) v ≡ accepted t → all_finite v ≡ true) → unless b (NUMBER s i) (searched_from s (i + 1) v) ≡ accepted t → (b && all_finite v) ≡ true
    go true k e = k e
    go false k e = absurd (refused_never e)

-- what it finds is a number of this slice
pub bad_is : (s : Slice) (i : ℕ) (v : List Float) (r : Refusal) → searched_from s i v ≡ refused r → (j : ℕ) × (r ≡ NUMBER s j)
unfolding searched_from
bad_is s i [] r e = absurd (refused_never (sym e))
bad_is s i (x ∷ v) r e = go (finite x) (bad_is s (i + 1) v r) e
  where
    go : (b : Bool) → (searched_from s (i + 1) v ≡ refused r → (j : ℕ) × (r ≡ NUMBER s j)) → unless b (NUMBER s i) (searched_from s (i + 1) v) ≡ refused r → (j : ℕ) × (r ≡ NUMBER s j)
    go true k e = k e
    go false k e = (i, cc)

-- ---- slice after slice

pub found_is : (l : List Input) (r : Refusal) → searched l ≡ refused r → (s : Slice) × (i : ℕ) × (r ≡ NUMBER s i)
unfolding searched
found_is [] r e = absurd (refused_never (sym e))
found_is (s ∷ l) r e = go (searched_from s.name 0 s.numbers) refl (found_is l r) e
  where
    go : (o : Outcome Bool) → searched_from s.name 0 s.numbers ≡ o → (searched l ≡ refused r → (c : Slice) × (i : ℕ) × (r ≡ NUMBER c i)) → onward o (λ (t : Bool). searched l) ≡ refused r → (c : Slice) × (i : ℕ) × (r ≡ NUMBER c i)
    go (refused q) d k e = let z : q ≡ r = cc in let w = bad_is s.name 0 s.numbers q d in (s.name, w.0, sym z ∙ w.1)
    go (accepted t) d k e = k e

-- where nothing is found in all, all of the first are finite and nothing is found in the rest
pub first_good : (s : Input) (l : List Input) {t : Bool} → searched (s ∷ l) ≡ accepted t → (all_finite s.numbers ≡ true) × (searched l ≡ accepted t)
unfolding searched
first_good s l {t} e = go (searched_from s.name 0 s.numbers) refl e
  where
    go : (o : Outcome Bool) → searched_from s.name 0 s.numbers ≡ o → onward o (λ (u : Bool). searched l) ≡ accepted t → (all_finite s.numbers ≡ true) × (searched l ≡ accepted t)
    go (refused r) d e = absurd (refused_never e)
    go (accepted u) d e = (all_good s.name 0 s.numbers d, e)

-- a search that tells 0 has come to nothing
pub found_nothing : (l : List Input) → (refusal (searched l)).number ≡ 0 → searched l ≡ nothing
unfolding searched searched_from
found_nothing [] e = refl
found_nothing (s ∷ l) e = go (searched_from s.name 0 s.numbers) (found_nothing l) e
  where
    go : (o : Outcome Bool) → ((refusal (searched l)).number ≡ 0 → searched l ≡ nothing) → (refusal (onward o (λ (t : Bool). searched l))).number ≡ 0 → onward o (λ (t : Bool). searched l) ≡ nothing
    go (refused r) k e = absurd (omega (arith, number_above r))
    go (accepted t) k e = k e

pub found_above : (l : List Input) (r : Refusal) → searched l ≡ refused r → 50 < number r
found_above l r e = let w = found_is l r e in omega (arith, slice_above w.0, ap number w.2)

pub searched_append : (k l : List Input) → searched (k ++ l) ≡ onward (searched k) (λ (t : Bool). searched l)
unfolding searched
searched_append [] l = refl
searched_append (s ∷ k) l = go (searched_from s.name 0 s.numbers) (searched_append k l)
  where
    go : (o : Outcome Bool) → searched (k ++ l) ≡ onward (searched k) (λ (t : Bool). searched l) → onward o (λ (t : Bool). searched (k ++ l)) ≡ onward (onward o (λ (t : Bool). searched k)) (λ (t : Bool). searched l)
    go (refused r) e = refl
    go (accepted t) e = e

-- v is what the code has found in l
pub record Found (l : List Input) (v : Verdict) : Type 0 where
  pub is : v ≡ refusal (searched l)

-- and w, by `next_bad`, with one slice more
pub found_next : {l : List Input} {v w : Verdict} → Found l v → (s : Slice) (x : List Float) → w ≡ earlier v (refusal (searched (input s x))) → Found (l ++ input s x) w
found_next {l} d s x e = record {
  is = e ∙ ap (λ (u : Verdict). earlier u (refusal (searched (input s x)))) d.is ∙ sym (earlier_onward (searched l) (searched (input s x))) ∙ ap refusal (sym (searched_append l (input s x)));
}

-- ---- `first_bad`: the numbers before i have passed (`Passed`), and number i hasn't

bad_from : (c : Slice) (s : List Float) (i k j p : ℕ) → i < length s → i < k → p ≡ j + i → all_finite (take i s) ≡ true → finite (get_or s i nan) ≡ false → searched_from c j (take k s) ≡ refused (NUMBER c p)
unfolding searched_from all_finite
bad_from c [] i k j p h g q t e = absurd (omega arith)
bad_from c (x ∷ s) i zero j p h g q t e = absurd (omega arith)
bad_from c (x ∷ s) zero (suc k) j p h g q t e = let z : j ≡ p = omega arith in rw (e, z)
bad_from c (x ∷ s) (suc i) (suc k) j p h g q t e = go (finite x) (λ d. bad_from c s i k (j + 1) p (omega arith) (omega arith) (omega arith) d e) t
  where
    go : (b : Bool) → (all_finite (take i s) ≡ true → searched_from c (j + 1) (take k s) ≡ refused (NUMBER c p)) → (b && all_finite (take i s)) ≡ true → unless b (NUMBER c j) (searched_from c (j + 1) (take k s)) ≡ refused (NUMBER c p)
    go true k t = k t
    go false k t = absurd (false≢true t)

pub bad_at : (c : Slice) (s : List Float) (i k : ℕ) → i < length s → i < k → all_finite (take i s) ≡ true → finite (get_or s i nan) ≡ false → verdict (NUMBER c i) ≡ refusal (searched (input c (take k s)))
unfolding searched
bad_at c s i k h g t e = rw (bad_from c s i k 0 i h g (omega arith) t e)

pub bad_nowhere : (c : Slice) (v : List Float) → true ≡ all_finite v → taken ≡ refusal (searched (input c v))
unfolding searched
bad_nowhere c v e = rw (none_bad c 0 v (sym e))
