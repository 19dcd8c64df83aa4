-- The theorems of this crate, for a reader and for whoever calls a root. `Laws` has those that hold in every format. Assumes nothing.
use mathlib.Core.Path.{◌≡◌, refl, sym, ap, ◌∙◌, subst}
use mathlib.Core.Bool.{Bool, true, false, false≢true}
use native.Mathlib.Omega.{arith}
use Prim.Native.Nat.{ℕ, zero, suc, ◌*◌, ◌<◌}
use lib.IntN.{ℤ}
use lib.Dec.{T, ltb→lt}
use lib.Ieee.{Float, nan, inf, fin, Format, up, down, fits, lt}
use Rattle.floats.specs.Refusal.{Outcome, accepted}
use Rattle.floats.specs.Numbers.{above_zero}
use Rattle.root.specs.Definition.{root_of, rooted}
use Rattle.root.specs.Nearest.{Nearest}
use Rattle.root.specs.Answer.{root_outcome, Asked}
use Rattle.root.proofs.Laws.{root_fits, root_above, root_nearest, root_only, zero_nearest}

-- ---- the root over the format
-- THE ROOT IS A VALUE OF THE FORMAT.
pub root_held : (f : Format) (x : Float) → T (fits f x) → T (rooted x) → T (fits f (root_of f x))
unfolding rooted root_of
root_held f nan h r = absurd r
root_held f (inf s) h r = absurd r
root_held f (fin s zero e) h r = h
root_held f (fin true (suc m) e) h r = absurd r
root_held f (fin false (suc m) e) h r = root_fits f m e h

-- NO VALUE OF THE FORMAT IS NEARER TO THE EXACT ROOT of an x that has one. Above zero nothing else is as near (`root-only` of Laws.antt).
-- To the root of a zero both zeros are nearest, and nothing else (`zero-only` there): nearness does not choose between them.
pub nearest_root : (f : Format) (x : Float) → T (fits f x) → T (rooted x) → Nearest f x (root_of f x)
unfolding rooted root_of
nearest_root f nan h r = absurd r
nearest_root f (inf s) h r = absurd r
nearest_root f (fin s zero e) h r = zero_nearest f s e s e h
nearest_root f (fin true (suc m) e) h r = absurd r
nearest_root f (fin false (suc m) e) h r = root_nearest f m e h

-- A ZERO OF EITHER SIGN IS ITS OWN ROOT: this decides between the two.
pub zero_own : (f : Format) (s : Bool) (e : ℤ) → root_of f (fin s zero e) ≡ fin s zero e
unfolding root_of
zero_own f s e = refl

-- ---- what `square_root` answers
-- THE OUTCOME IS WHAT DOCUMENT 01 ASKS, for every value of the format.
pub asked : (f : Format) (x : Float) → T (fits f x) → Asked f x (root_outcome f x)
unfolding rooted root_of
asked f nan h = refl
asked f (inf s) h = refl
asked f (fin s zero e) h = refl
asked f (fin true (suc m) e) h = refl
asked f (fin false (suc m) e) h = (root_of f (fin false (suc m) e), refl, root_nearest f m e h)

-- AND NOTHING ELSE IS.
pub asked_only : (f : Format) (x : Float) (o : Outcome Float) → T (fits f x) → Asked f x o → o ≡ root_outcome f x
unfolding rooted root_of
asked_only f nan o h k = k
asked_only f (inf s) o h k = k
asked_only f (fin s zero e) o h k = k
asked_only f (fin true (suc m) e) o h k = k
asked_only f (fin false (suc m) e) o h k = k.1 ∙ ap accepted (root_only f m e h k.0 k.2)

-- ---- for callers
-- WHAT IS ABOVE ZERO ALWAYS HAS A ROOT: a pivot that passes is never refused here.
pub above_rooted : (x : Float) → above_zero x ≡ true → rooted x ≡ true
unfolding above_zero lt rooted
above_rooted nan t = t
above_rooted (inf s) t = t
above_rooted (fin s zero e) t = refl
above_rooted (fin true (suc m) e) t = t
above_rooted (fin false (suc m) e) t = refl

-- AND ITS ROOT IS ABOVE ZERO, so it can be divided by.
pub above_root_above : (f : Format) (x : Float) → T (fits f x) → above_zero x ≡ true → above_zero (root_of f x) ≡ true
unfolding above_zero lt root_of
above_root_above f nan h t = absurd (false≢true t)
above_root_above f (inf s) h t = absurd (false≢true t)
above_root_above f (fin true m e) h t = absurd (false≢true t)
above_root_above f (fin false zero e) h t = absurd (none (down e) (up e) (ltb→lt (0 * 1 * down e) (0 * up e * 1) (subst T (sym t) tt)))
  where
    none : (a b : ℕ) → 0 * 1 * a < 0 * b * 1 → ⊥
    none a b h = omega arith
above_root_above f (fin false (suc m) e) h t = root_above f m e h
