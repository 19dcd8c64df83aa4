-- Save as the code takes it: the tests before 11, then whether the filter is stale, then the record. Assumes nothing.
use Prim.Native.Nat.{ℕ, ◌*◌, ◌≤◌}
use mathlib.Core.Path.{◌≡◌, refl, sym, ap, ◌∙◌}
use mathlib.Core.Bool.{Bool, true, false, not, cond}
use mathlib.Core.List.{List, []}
use native.Mathlib.Omega.{arith}
use borrow.Author.Tests.{leb-true}
use lib.Dec.{leb}
use lib.ListN.{length}
use lib.Ieee.{Format}
use Rattle.floats.specs.declared.Verdict.{Verdict}
use Rattle.floats.specs.declared.Refusal.TheVariants.{Fresh as FRESH}
use Rattle.floats.specs.Refusal.{verdict, taken, earlier, refusal, nothing}
use Rattle.floats.specs.Search.{searched}
use Rattle.floats.specs.Fronts.{over}
use Rattle.floats.proofs.Refusals.{number_of, earlier_first, earlier_second}
use Rattle.filter.specs.Types.{Filter}
use Rattle.filter.specs.Asked.{Asks, within, long, every, in_range, in_order, guarded, first_refusal}
use Rattle.filter.specs.Filters.{is_shut, seen, reads}
use Rattle.filter.specs.Records.{record_length, bytes_of}
use Rattle.filter.specs.Calls.{Call, reading, save, lend_bytes, line, asks}
use Rattle.filter.specs.Steps.{Stepped, step}
use Rattle.filter.proofs.Sizes.{and_true, within_8, range_le, square_le}
use Rattle.filter.proofs.Lines.{states_le}
use Rattle.filter.proofs.Order.{none, passed, none_told, tested_early}
use Rattle.filter.proofs.Taken.{Told, refused_before, finished}

-- 11 is the last test
fresh_last : (a₁ a₂ a₃ stale : Bool) → refusal (in_order a₁ a₂ a₃ true false (not stale) nothing true true nothing) ≡ earlier (refusal (in_order a₁ a₂ a₃ true false false nothing true true nothing)) (cond stale taken (verdict FRESH))
unfolding in_order
fresh_last false a₂ a₃ stale = refl
fresh_last true false a₃ stale = refl
fresh_last true true false stale = refl
fresh_last true true true false = refl
fresh_last true true true true = refl

-- what is asked before it
abbrev pub before : Filter → List ℕ → Asks
before s b = line (is_shut s.track.stage) s.sheet.n [] (lend_bytes b (record_length s.sheet.n)) false [] []

-- as the code asks it
pub tested : (f : Format) (s : Filter) (b : List ℕ) {v : Verdict} {fits sized : Bool} {needs : ℕ}
    → v ≡ refusal (in_order fits sized (leb needs (length b)) true false false nothing true true nothing)
    → fits ≡ is_shut s.track.stage → sized ≡ in_range 1 8 s.sheet.n → needs ≡ cond (leb s.sheet.n 8) (record_length s.sheet.n) 0
    → v ≡ first_refusal f (before s b)
tested f s b e h k l =
    tested_early f _ nothing e h (k ∙ sym (and_true _))
    (λ z. ap (λ (n : ℕ). leb n (length b)) (l ∙ within_8 _ _ (states_le _ [] z)) ∙ sym (and_true _))
    refl refl refl (λ z. none) refl (λ z. refl)

module _ (f : Format) (s : Filter) (b : List ℕ) where
  abbrev call : Call
  call = reading (save b)

  module _ {v : Verdict} (is : v ≡ first_refusal f (before s b)) where
    asked : first_refusal f (asks (seen s) call) ≡ earlier v (cond s.track.stale taken (verdict FRESH))
    unfolding first_refusal guarded searched
    asked = fresh_last (is_shut s.track.stage) (every within (before s b).sizes) (every long (before s b).lent) s.track.stale ∙ ap (λ (u : Verdict). earlier u (cond s.track.stale taken (verdict FRESH))) (sym is)

    -- what is told of a step, and the lent bytes after it
    by_step : {u : Stepped} {w : Verdict} {b' : List ℕ} → step f s call ≡ u → w ≡ u.reply.refusal → b' ≡ over u.reply.bytes b → (w ≡ (step f s call).reply.refusal) × (b' ≡ over (step f s call).reply.bytes b)
    by_step e x y = (x ∙ ap (λ (u : Stepped). u.reply.refusal) (sym e), y ∙ ap (λ (u : Stepped). over u.reply.bytes b) (sym e))

    pub turned_away : (v.number ≡ 0 → ⊥) → (v ≡ (step f s call).reply.refusal) × (b ≡ over (step f s call).reply.bytes b)
    turned_away h = by_step (refused_before (record { told = v; is = sym (asked ∙ earlier_first v _ h) }) h) refl refl

    module _ (z : v.number ≡ 0) where
      pub not_stale : {w : Verdict} → w ≡ verdict FRESH → s.track.stale ≡ false → (w ≡ (step f s call).reply.refusal) × (b ≡ over (step f s call).reply.bytes b)
      not_stale {w} e h =
          let t : Told f s call = record { told = w; is = e ∙ sym (asked ∙ earlier_second v _ z ∙ ap (λ (m : Bool). cond m taken (verdict FRESH)) h) } in
          by_step (refused_before t (λ n. omega (arith, number_of e))) refl refl

      pub saved : {b' : List ℕ} → s.track.stale ≡ true → b' ≡ over (bytes_of s) b → (v ≡ (step f s call).reply.refusal) × (b' ≡ over (step f s call).reply.bytes b)
      unfolding bytes_of
      saved h e =
          let none : v ≡ taken = is ∙ none_told f (before s b) (sym (number_of is) ∙ z) in
          let t : Told f s call = record { told = v; is = none ∙ sym (asked ∙ earlier_second v _ z ∙ ap (λ (m : Bool). cond m taken (verdict FRESH)) h) } in
          by_step (finished t z {d = record { change = reads; given = []; stale = true; bytes = bytes_of s }} refl) none e

      -- there is room for the record
      pub room : (s.sheet.n ≤ 8) × ((s.sheet.n * s.sheet.n ≤ 64) × (record_length s.sheet.n ≤ length b))
      room =
          let p = passed f (before s b) (sym (number_of is) ∙ z) in
          let h = range_le 1 8 _ (sym (and_true _) ∙ p.sized) in
          (h, (square_le _ h, leb-true _ _ (sym (and_true _) ∙ p.long)))
