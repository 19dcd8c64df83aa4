-- Reading a list number by number: what is left of it comes to the whole. Assumes nothing.
use mathlib.Core.Path.{◌≡◌, refl, sym, ap, ◌∙◌}
use mathlib.Core.List.{List}
use Prim.Native.Nat.{ℕ, suc, ◌+◌, ◌-◌, ◌≤◌, ◌<◌}
use native.Mathlib.Omega.{arith}
use lib.Ieee.{Float, Format}
use lib.ListN.{set}
use Rattle.std.specs.Prelude.{Option, None, Some}
use Rattle.script.specs.Text.{found}
use Rattle.script.specs.declared.text.Read.{Read}
use Rattle.script.specs.Numbers.{number_of, Filled, on_number, numbers_from, list_of}

-- what was read and the numbers afterwards, part by part
abbrev pub Ends : Option (Read ℕ) → List Float → Filled → Type 0
Ends r l w = (r ≡ w.read) × (l ≡ w.numbers)

ends : {r : Option (Read ℕ)} {l : List Float} {w : Filled} → record { read = r; numbers = l } ≡ w → Ends r l w
ends e = (ap (λ (g : Filled). g.read) e, ap (λ (g : Filled). g.numbers) e)

-- i of len numbers are at the front of l, and what is left comes to the whole list
pub record Gone (f : Format) (s : List ℕ) (at : ℕ) (l₀ : List Float) (len i place : ℕ) (l : List Float) : Type 0 where
  pub few : len ≤ 512
  pub short : i ≤ len
  pub comes : numbers_from f (len - i) s place i l ≡ list_of f s at l₀

one : (f : Format) (k : ℕ) (s : List ℕ) (place i : ℕ) (l : List Float)
    → numbers_from f (suc k) s place i l ≡ on_number (number_of f s place) i l (λ next m. numbers_from f k s next (i + 1) m)
unfolding numbers_from
one f k s place i l = refl

none : (f : Format) (s : List ℕ) (place i : ℕ) (l : List Float) → numbers_from f 0 s place i l ≡ record { read = found i place; numbers = l }
unfolding numbers_from
none f s place i l = refl

module _ {f : Format} {s : List ℕ} {at : ℕ} {l₀ : List Float} {len i place : ℕ} {l : List Float} (r : Gone f s at l₀ len i place l) where
  -- the next number, or where it is none
  next_one : {w : Option (Read Float)} → i < len → w ≡ number_of f s place → on_number w i l (λ next m. numbers_from f (len - (i + 1)) s next (i + 1) m) ≡ list_of f s at l₀
  next_one h e =
      let n : suc (len - (i + 1)) ≡ len - i = omega arith in
      ap (λ (w : Option (Read Float)). on_number w i l (λ next m. numbers_from f (len - (i + 1)) s next (i + 1) m)) e
      ∙ sym (one f (len - (i + 1)) s place i l) ∙ ap (λ (k : ℕ). numbers_from f k s place i l) n ∙ r.comes

  pub gone_more : {x : Read Float} {m : List Float} → i < len → Some x ≡ number_of f s place → m ≡ set l i x.value → Gone f s at l₀ len (i + 1) x.next m
  gone_more {x} {m} h e g = record { few = r.few; short = omega arith; comes = ap (λ (m : List Float). numbers_from f (len - (i + 1)) s x.next (i + 1) m) g ∙ next_one h e }

  pub gone_not : i < len → None ≡ number_of f s place → Ends None l (list_of f s at l₀)
  gone_not h e = ends (next_one h e)

  pub gone_end : len ≤ i → Ends (found len place) l (list_of f s at l₀)
  gone_end h =
      let e : len ≡ i = omega (arith, r.short) in
      let n : 0 ≡ len - i = omega arith in
      ends (ap (λ (k : ℕ). record { read = found k place; numbers = l }) e ∙ sym (none f s place i l) ∙ ap (λ (k : ℕ). numbers_from f k s place i l) n ∙ r.comes)
