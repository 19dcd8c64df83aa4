-- Laws of what is written over `Number`: the numbers that a list of values is (its `floats`), place by place. Assumes nothing.
use Prim.Native.Nat.{ℕ, zero, suc, ◌<◌}
use mathlib.Core.Path.{◌≡◌, refl, sym, ap, ◌∙◌}
use mathlib.Core.Bool.{Bool, true, false, false≢true}
use mathlib.Core.List.{List, [], ◌∷◌, map}
use native.Mathlib.Omega.{arith}
use lib.ListN.{length, take, get_or, set, replicate, length-map, length-take}
use lib.Ieee.{Float, nan, inf, fin, neg, lt}
use lib.Ieee.Scale.{finite}

-- ---- between the two infinities, by the two tests in the code's order

pub above_none : (x : Float) {n : Float} {a : Bool} → n ≡ neg (inf false) → a ≡ lt n x → a ≡ false → a ≡ finite x
unfolding lt neg
above_none nan e f h = h
above_none (inf true) e f h = h
above_none (inf false) e f h = h
above_none (fin s m k) e f h = absurd (false≢true (sym h ∙ f ∙ ap (λ (z : Float). lt z (fin s m k)) e))

pub between : (x : Float) {n t : Float} {a b : Bool} → n ≡ neg (inf false) → t ≡ inf false → a ≡ lt n x → a ≡ true → b ≡ lt x t → b ≡ finite x
unfolding lt neg
between nan d e f h k = k
between (inf true) d e f h k = absurd (false≢true (sym (f ∙ ap (λ (z : Float). lt z (inf true)) d) ∙ h))
between (inf false) d e f h k = k ∙ ap (λ (z : Float). lt (inf false) z) e
between (fin s m i) d e f h k = k ∙ ap (λ (z : Float). lt (fin s m i) z) e

-- ---- the numbers that a list of values is, place by place

module _ {A : Type 0} {float : A → Float} {floats : List A → List Float} (law : (l : List A) → floats l ≡ map float l) where
  pub floats_long : (l : List A) → length (floats l) ≡ length l
  floats_long l = rw law (length-map l float)

  pub floats_at : (l : List A) (i : ℕ) (z : Float) (d : A) → i < length l → get_or (floats l) i z ≡ float (get_or l i d)
  floats_at l i z d h = rw law (mapped_at l i h)
    where
      mapped_at : (l : List A) (i : ℕ) → i < length l → get_or (map float l) i z ≡ float (get_or l i d)
      mapped_at [] i h = absurd (omega arith)
      mapped_at (x ∷ l) zero h = refl
      mapped_at (x ∷ l) (suc i) h = mapped_at l i (omega arith)

  pub floats_set : (l : List A) (i : ℕ) (v : A) → floats (set l i v) ≡ set (floats l) i (float v)
  floats_set l i v = law (set l i v) ∙ mapped_set l i ∙ ap (λ (m : List Float). set m i (float v)) (sym (law l))
    where
      mapped_set : (l : List A) (i : ℕ) → map float (set l i v) ≡ set (map float l) i (float v)
      mapped_set [] i = refl
      mapped_set (x ∷ l) zero = refl
      mapped_set (x ∷ l) (suc i) = ap (λ (m : List Float). float x ∷ m) (mapped_set l i)

  pub floats_take : (l : List A) (k : ℕ) → floats (take k l) ≡ take k (floats l)
  floats_take l k = law (take k l) ∙ mapped_take l k ∙ ap (take k) (sym (law l))
    where
      mapped_take : (l : List A) (k : ℕ) → map float (take k l) ≡ take k (map float l)
      mapped_take [] zero = refl
      mapped_take [] (suc k) = refl
      mapped_take (x ∷ l) zero = refl
      mapped_take (x ∷ l) (suc k) = ap (λ (m : List Float). float x ∷ m) (mapped_take l k)

  pub floats_replicate : (k : ℕ) (v : A) → floats (replicate k v) ≡ replicate k (float v)
  floats_replicate k v = law (replicate k v) ∙ mapped_replicate k
    where
      mapped_replicate : (k : ℕ) → map float (replicate k v) ≡ replicate k (float v)
      mapped_replicate zero = refl
      mapped_replicate (suc k) = ap (λ (m : List Float). float v ∷ m) (mapped_replicate k)

  -- an item of the first n values of s is number i there
  pub item_is : (s : List A) (n i : ℕ) (x : A) → i < length (take n s) → x ≡ get_or (take n s) i x → float x ≡ get_or (floats s) i nan
  item_is s n i x h e = ap float (e ∙ within s n i h) ∙ sym (floats_at s i nan x (inside s n i h))
    where
      within : (s : List A) (n i : ℕ) → i < length (take n s) → get_or (take n s) i x ≡ get_or s i x
      within s zero i h = absurd (omega arith)
      within [] (suc n) i h = refl
      within (y ∷ s) (suc n) zero h = refl
      within (y ∷ s) (suc n) (suc i) h = within s n i (omega arith)

      inside : (s : List A) (n i : ℕ) → i < length (take n s) → i < length s
      inside s n i h = omega (arith, length-take n s)
