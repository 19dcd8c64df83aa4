-- A run: how many bytes it has, and where it ends. Assumes nothing.
use mathlib.Core.Path.{◌≡◌, refl, sym, ap, ◌∙◌}
use mathlib.Core.Bool.{Bool, true, false, cond}
use mathlib.Core.List.{List, [], ◌∷◌}
use Prim.Native.Nat.{ℕ, suc, ◌+◌, ◌-◌, ◌≤◌, ◌<◌, min}
use native.Mathlib.Omega.{arith}
use borrow.Author.Tests.{leb-true, leb-false}
use lib.Dec.{leb}
use lib.ListN.{length, take, drop, drop_of_length-le, length-drop}
use lib.Seq.{take_all}
use Rattle.std.specs.Prelude.{take_while}
use Rattle.std.specs.List.{prefix_len}
use Rattle.script.specs.Text.{belongs_to, run_of, end_of}
use Rattle.script.specs.declared.text.Class.{Class}

-- a run, as the bytes at the front that pass the test
pub run_is : (k : Class) (l : List ℕ) → length (take_while (belongs_to k) l) ≡ run_of k l
unfolding run_of
run_is k [] = refl
run_is k (c ∷ l) = either (belongs_to k c) (prefix_len (belongs_to k) l) (run_is k l)
  where
    either : (t : Bool) (p : ℕ) {n : ℕ} → length (take p l) ≡ n → length (take (cond t (1 + p) 0) (c ∷ l)) ≡ cond t (suc n) 0
    either true p h = let e : 1 + p ≡ suc p = omega arith in rw e (ap suc h)
    either false p h = refl

pub run_over : (k : Class) (s : List ℕ) (i : ℕ) → length s ≤ i → end_of k s i ≡ i
unfolding run_of
run_over k s i h = rw (drop_of_length-le s h) (omega arith)

-- what a line has from place i on, as the slice from there is told: none where i lies past its end
pub rest_is : (i : ℕ) (s : List ℕ) {n : ℕ} → n ≡ min i (length s) → take (length s - n) (drop n s) ≡ drop i s
rest_is i s {n} e = take_all (length s - n) (drop n s) (omega (arith, length-drop n s)) ∙ go (leb i (length s)) (leb-true _ _) (leb-false _ _)
  where
    go : (t : Bool) → (t ≡ true → i ≤ length s) → (t ≡ false → length s < i) → drop n s ≡ drop i s
    go true f g = let h = f refl in let m : n ≡ i = omega arith in ap (λ (j : ℕ). drop j s) m
    go false f g = let h = g refl in drop_of_length-le s (omega arith) ∙ sym (drop_of_length-le s (omega arith))

run_short : (k : Class) (l : List ℕ) → run_of k l ≤ length l
unfolding run_of
run_short k [] = omega arith
run_short k (c ∷ l) = either (belongs_to k c) (run_short k l)
  where
    either : (t : Bool) {n m : ℕ} → n ≤ m → cond t (suc n) 0 ≤ suc m
    either true h = omega arith
    either false h = omega arith

-- a run that starts in s ends in it
pub run_in : (k : Class) (s : List ℕ) (i : ℕ) → i ≤ length s → end_of k s i ≤ length s
run_in k s i h = omega (arith, run_short k (drop i s), length-drop i s)
