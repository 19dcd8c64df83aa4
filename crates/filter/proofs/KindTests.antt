-- The tests of residual kinds: the first m pass a test where none of them fails it; what 6 asks of them, and the numbers that they bring in. Assumes nothing.
use Prim.Native.Nat.{ℕ, zero, suc, ◌+◌, ◌<◌, ◌≤◌}
use native.Mathlib.Numerals.{add-one}
use native.Mathlib.Omega.{arith}
use mathlib.Core.Path.{◌≡◌, refl, sym, ap, ◌∙◌}
use mathlib.Core.Bool.{Bool, true, false, ◌&&◌}
use mathlib.Core.List.{List, [], ◌∷◌}
use lib.ListN.{length, take, get_or}
use lib.Seq.{take-suc}
use lib.Ieee.{Float, Format}
use Rattle.angles.specs.declared.Kind.{Kind as KindOf}
use Rattle.angles.specs.declared.Kind.TheVariants.{Plain, Turn}
use Rattle.angles.specs.Kinds.{Kind, is_plain, half_of}
use Rattle.filter.specs.Asked.{passing, fit, every}
use Rattle.filter.specs.Calls.{halves, as_kinds}
use Rattle.filter.proofs.Sizes.{every_append}

-- ---- the first i pass the test t

pub record Passed (t : Kind → Bool) (s : List Kind) (i : ℕ) : Type 0 where
  pub is : every t (take i s) ≡ true

module _ (t : Kind → Bool) where
  fails_in : (s : List Kind) (i m : ℕ) (d : Kind) → i < length s → i < m → t (get_or s i d) ≡ false → every t (take m s) ≡ false
  fails_in [] i m d h g e = absurd (omega arith)
  fails_in (x ∷ s) i zero d h g e = absurd (omega arith)
  fails_in (x ∷ s) zero (suc m) d h g e = rw e
  fails_in (x ∷ s) (suc i) (suc m) d h g e = ap (λ (b : Bool). t x && b) (fails_in s i m d (omega arith) (omega arith) e) ∙ and-false (t x)
    where
      and-false : (a : Bool) → (a && false) ≡ false
      and-false true = refl
      and-false false = refl

-- the first i are the first m where there are no more
take_alike : (i m : ℕ) (s : List Kind) → i ≤ m → (i < m → length s ≤ i) → take i s ≡ take m s
take_alike zero zero s h g = refl
take_alike zero (suc m) [] h g = refl
take_alike zero (suc m) (x ∷ s) h g = absurd (omega (arith, g (omega arith)))
take_alike (suc i) zero s h g = absurd (omega arith)
take_alike (suc i) (suc m) [] h g = refl
take_alike (suc i) (suc m) (x ∷ s) h g = ap (λ (l : List Kind). x ∷ l) (take_alike i m s (omega arith) (λ k. omega (arith, g (omega arith))))

pub passed_none : {t : Kind → Bool} {s : List Kind} → Passed t s 0
passed_none = record { is = refl }

module _ {t : Kind → Bool} {s : List Kind} {i : ℕ} (at : Passed t s i) where
  pub passed_more : (d : Kind) → i < length s → t (get_or s i d) ≡ true → Passed t s (i + 1)
  passed_more d h e = record { is = rw (add-one, take-suc s i d h, every_append t (take i s) (get_or s i d ∷ []), at.is, e) }

  pub passed_bad : (m : ℕ) (d : Kind) → i < length s → i < m → t (get_or s i d) ≡ false → false ≡ every t (take m s)
  passed_bad m d h g e = sym (fails_in t s i m d h g e)

  -- no kind is left
  pub passed_all : (m : ℕ) → i ≤ m → (i < m → length s ≤ i) → true ≡ every t (take m s)
  passed_all m h g = sym at.is ∙ ap (every t) (take_alike i m s h g)

-- ---- 6, and the numbers that kinds bring in

pub all_pass : (f : Format) (l : List Kind) → every (passing f) l ≡ every (fit f) (as_kinds l)
all_pass f [] = refl
all_pass f (k ∷ l) = ap (λ (b : Bool). passing f k && b) (all_pass f l)

pub halves_take : (m : ℕ) (l : List Kind) → take m (halves l) ≡ halves (take m l)
halves_take zero l = refl
halves_take (suc m) [] = refl
halves_take (suc m) (k ∷ l) = ap (λ (v : List Float). half_of k ∷ v) (halves_take m l)

-- ---- kinds over `Number`: each law takes the `same` of the bound first

module _ {A : Type 0} {seen : (F : Type 0 → Type 0) → F A → F Float} (same : (P : (B : Type 0) → ((F : Type 0 → Type 0) → F B → F Float) → Type 0) → P Float (λ F x. x) → P A seen) where
  -- an item of the first n is that kind
  pub kind_is : (l : List (KindOf A)) (n i : ℕ) (x : KindOf A) (z : Kind) → i < length (take n l) → x ≡ get_or (take n l) i x → get_or (seen (λ B. List (KindOf B)) l) i z ≡ seen KindOf x
  kind_is = same (λ B s. (l : List (KindOf B)) (n i : ℕ) (x : KindOf B) (z : Kind) → i < length (take n l) → x ≡ get_or (take n l) i x → get_or (s (λ C. List (KindOf C)) l) i z ≡ s KindOf x) item_of
    where
      item_of : (l : List Kind) (n i : ℕ) (x z : Kind) → i < length (take n l) → x ≡ get_or (take n l) i x → get_or l i z ≡ x
      item_of l zero i x z h e = absurd (omega arith)
      item_of [] (suc n) i x z h e = absurd (omega arith)
      item_of (y ∷ l) (suc n) zero x z h e = sym e
      item_of (y ∷ l) (suc n) (suc i) x z h e = item_of l n i x z (omega arith) e

  pub plain_is : (k : KindOf A) → k ≡ Plain → is_plain (seen KindOf k) ≡ true
  plain_is = same (λ B s. (k : KindOf B) → k ≡ Plain → is_plain (s KindOf k) ≡ true) (λ k e. ap is_plain e)

  pub turn_is : (k : KindOf A) → (k ≡ Plain → ⊥) → is_plain (seen KindOf k) ≡ false
  turn_is = same (λ B s. (k : KindOf B) → (k ≡ Plain → ⊥) → is_plain (s KindOf k) ≡ false) not_plain
    where
      not_plain : (k : Kind) → (k ≡ Plain → ⊥) → is_plain k ≡ false
      not_plain Plain h = absurd (h refl)
      not_plain (Turn x) h = refl

  -- four kinds one by one
  pub four_halves : (l : List (KindOf A)) (a b c d : KindOf A) → length l ≡ 4 → half_of (seen KindOf (get_or l 0 a)) ∷ half_of (seen KindOf (get_or l 1 b)) ∷ half_of (seen KindOf (get_or l 2 c)) ∷ half_of (seen KindOf (get_or l 3 d)) ∷ [] ≡ halves (seen (λ B. List (KindOf B)) l)
  four_halves = same (λ B s. (l : List (KindOf B)) (a b c d : KindOf B) → length l ≡ 4 → half_of (s KindOf (get_or l 0 a)) ∷ half_of (s KindOf (get_or l 1 b)) ∷ half_of (s KindOf (get_or l 2 c)) ∷ half_of (s KindOf (get_or l 3 d)) ∷ [] ≡ halves (s (λ C. List (KindOf C)) l)) four_of
    where
      four_of : (l : List Kind) (a b c d : Kind) → length l ≡ 4 → half_of (get_or l 0 a) ∷ half_of (get_or l 1 b) ∷ half_of (get_or l 2 c) ∷ half_of (get_or l 3 d) ∷ [] ≡ halves l
      four_of [] a b c d h = absurd (omega arith)
      four_of (x ∷ []) a b c d h = absurd (omega arith)
      four_of (x ∷ y ∷ []) a b c d h = absurd (omega arith)
      four_of (x ∷ y ∷ z ∷ []) a b c d h = absurd (omega arith)
      four_of (x ∷ y ∷ z ∷ w ∷ []) a b c d h = refl
      four_of (x ∷ y ∷ z ∷ w ∷ v ∷ l) a b c d h = absurd (omega arith)
