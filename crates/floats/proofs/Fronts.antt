-- Laws of the fronts of lists (specs/Fronts.antt): none, one more number, the length. Assumes nothing.
use Prim.Native.Nat.{ℕ, suc, ◌+◌, ◌<◌, ◌≤◌}
use mathlib.Core.Path.{◌≡◌, refl, sym, ap, ◌∙◌}
use mathlib.Core.List.{List, [], ◌∷◌, ◌++◌, append_assoc}
use native.Mathlib.Numerals.{add-one}
use native.Mathlib.Omega.{arith}
use lib.ListN.{length, take, drop, get_or, set, length-take, length-append, length-drop}
use lib.Seq.{take-suc, drop-cons, set_at, length-take-le}
use Rattle.floats.specs.Fronts.{front, over}

pub front_none : {A : Type 0} (s d : List A) → front 0 s d ≡ d
unfolding front
front_none s d = refl

pub front_more : {A : Type 0} (s d : List A) (i : ℕ) (z : A) → i < length s → i < length d → set (front i s d) i (get_or s i z) ≡ front (i + 1) s d
unfolding front
front_more s d i z h k =
    let t : i ≤ length s = omega arith in
    rw (add-one, drop-cons d i z k, set_at (take i s) (get_or d i z) (drop (suc i) d) (get_or s i z) i (length-take-le i s t), take-suc s i z h, append_assoc)

pub length_front : {A : Type 0} (s o d : List A) (i : ℕ) → o ≡ front i s d → i ≤ length s → i ≤ length d → length o ≡ length d
unfolding front
length_front s o d i e h k = let l : length (front i s d) ≡ length d = simp (length-append, length-take, length-drop) (omega arith) in ap length e ∙ l

-- the first k of s put over d, said by what is put there
pub front_over : {A : Type 0} (k : ℕ) (s d : List A) → k ≤ length s → front k s d ≡ over (take k s) d
unfolding front
front_over k s d h = ap (λ (j : ℕ). take k s ++ drop j d) (sym (length-take-le k s h))

-- a list of four is what stands in its four places
pub four : {A : Type 0} (l : List A) (d : A) → length l ≡ 4 → get_or l 0 d ∷ get_or l 1 d ∷ get_or l 2 d ∷ get_or l 3 d ∷ [] ≡ l
four [] d h = absurd (omega arith)
four (a ∷ []) d h = absurd (omega arith)
four (a ∷ b ∷ []) d h = absurd (omega arith)
four (a ∷ b ∷ c ∷ []) d h = absurd (omega arith)
four (a ∷ b ∷ c ∷ e ∷ []) d h = refl
four (a ∷ b ∷ c ∷ e ∷ g ∷ l) d h = absurd (omega arith)
