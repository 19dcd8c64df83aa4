-- One step of a filter, as the code of a call takes it: refused before the steps, taken with nothing to work out, or taken by what a plan comes to; and readings. Assumes nothing.
use Prim.Native.Nat.{ℕ, ◌≤◌}
use mathlib.Core.Path.{◌≡◌, refl, sym, ap, ap₂, ◌∙◌}
use mathlib.Core.Bool.{Bool, true, false}
use mathlib.Core.List.{List, []}
use lib.ListN.{take}
use lib.Ieee.{Float, Format}
use Rattle.floats.specs.declared.Verdict.{Verdict}
use Rattle.floats.specs.declared.Refusal.{Refusal}
use Rattle.floats.specs.Refusal.{verdict, taken, Outcome, accepted, refused, refusal, or, onward}
use Rattle.floats.specs.Fronts.{over}
use Rattle.matrix.specs.Results.{Plan, finish, run, mapped}
use Rattle.floats.proofs.Refusals.{number_of, gave_zero, gave_number}
use Rattle.matrix.proofs.Mapped.{run_mapped}
use Rattle.filter.specs.Types.{Filter}
use Rattle.filter.specs.Types.{Answer}
use Rattle.filter.specs.declared.Filter.{Filter as FilterOf}
use Rattle.filter.specs.declared.Answer.{Answer as AnswerOf}
use Rattle.filter.specs.Asked.{Asks, guarded, first_refusal}
use Rattle.filter.specs.Filters.{seen, Change, reads, changed}
use Rattle.filter.specs.Calls.{Call, lend, line, asks, Done, done, plan}
use Rattle.filter.specs.Steps.{Stepped, stepped, step, answered}
use Rattle.filter.proofs.Order.{Passed, passed, goes_on, refuses, none_told, both_ways, number_given, unless_stale}
use Rattle.filter.proofs.Lines.{counted, counted_first}
use Rattle.filter.proofs.Seen.{seen_answer}

-- ---- steps

-- nothing has changed, and nothing is handed out
abbrev pub stayed : Filter → Verdict → Stepped
stayed s r = record { filter = s; reply = record { refusal = r; given = []; stale = true; bytes = [] } }

-- an answer
abbrev pub answering : Verdict → Filter → Answer
answering v s = record { filter = s; refusal = v }

-- what the tests of a call have told
pub record Told (f : Format) (s : Filter) (c : Call) : Type 0 where
  pub told : Verdict
  pub is : told ≡ first_refusal f (asks (seen s) c)

module _ {f : Format} {s : Filter} {c : Call} (t : Told f s c) where
  pub refused_before : (t.told.number ≡ 0 → ⊥) → step f s c ≡ stayed s t.told
  unfolding step
  refused_before h =
      let q = refuses f (asks (seen s) c) (run (plan f (seen s) c)) (λ z. h (number_of t.is ∙ z)) in
      ap (stepped s) q.1 ∙ ap (stayed s) (q.2 ∙ sym t.is)

  pub turned_away : (t.told.number ≡ 0 → ⊥) → answered (stayed s t.told) ≡ answered (step f s c)
  turned_away h = ap answered (sym (refused_before h))

  -- a call that hands numbers out over b, by what its step comes to
  pub by_step : {u : Stepped} {r : Answer} {b' : List Float} (b : List Float) → step f s c ≡ u → r ≡ answered u → b' ≡ over u.reply.given b → (r ≡ answered (step f s c)) × (b' ≡ over (step f s c).reply.given b)
  by_step b e x y = (x ∙ ap answered (sym e), y ∙ ap (λ (v : Stepped). over v.reply.given b) (sym e))

  module _ (z : t.told.number ≡ 0) where
    is_zero : (first_refusal f (asks (seen s) c)).number ≡ 0
    is_zero = sym (number_of t.is) ∙ z

    pub all_passed : Passed f (asks (seen s) c)
    all_passed = passed f (asks (seen s) c) is_zero

    -- what was told is handed back as it is
    pub told_taken : t.told ≡ taken
    told_taken = t.is ∙ none_told f (asks (seen s) c) is_zero

    goes : step f s c ≡ stepped s (run (plan f (seen s) c))
    unfolding step
    goes = ap (stepped s) (goes_on f (asks (seen s) c) (run (plan f (seen s) c)) is_zero)

    -- a plan with no results
    pub finished : {d : Done} → plan f (seen s) c ≡ finish d → step f s c ≡ stepped s (accepted d)
    unfolding run
    finished p = goes ∙ ap (λ (q : Plan Done). stepped s (run q)) p

    pub has_finished : {d : Done} {g : Filter} → g ≡ changed s d.change → plan f (seen s) c ≡ finish d → answering t.told g ≡ answered (step f s c)
    has_finished e p = ap₂ answering told_taken e ∙ ap answered (sym (finished p))

    -- a setter: v is what it is to set
    pub has_set : (to : List Float → Change) {v w : List Float} → v ≡ w → plan f (seen s) c ≡ finish (done (to w) []) → answering t.told (changed s (to v)) ≡ answered (step f s c)
    has_set to e p = has_finished (ap (λ (u : List Float). changed s (to u)) e) p

    -- a plan that is passed on
    module _ {A : Type 0} (g : A → Done) (p : Plan A) (is : plan f (seen s) c ≡ mapped g p) where
      comes : step f s c ≡ stepped s (onward (run p) (λ (a : A). accepted (g a)))
      comes = goes ∙ ap (λ (q : Plan Done). stepped s (run q)) is ∙ ap (stepped s) (run_mapped g p)

      pub stopped : ((refusal (run p)).number ≡ 0 → ⊥) → step f s c ≡ stayed s (refusal (run p))
      stopped h = let q = gave_number (run p) h in comes ∙ ap (λ (o : Outcome A). stepped s (onward o (λ (a : A). accepted (g a)))) q.1 ∙ ap (stayed s) (sym q.2)

      pub made : (d : A) → (refusal (run p)).number ≡ 0 → step f s c ≡ stepped s (accepted (g (or d (run p))))
      made d h = comes ∙ ap (λ (o : Outcome A). stepped s (onward o (λ (a : A). accepted (g a)))) (gave_zero (run p) d h)

-- ---- an answer over `Number`, of a filter s: each law takes the `same` of the bound first

module _ {A : Type 0} {looked : (F : Type 0 → Type 0) → F A → F Float} (same : (P : (B : Type 0) → ((F : Type 0 → Type 0) → F B → F Float) → Type 0) → P Float (λ F x. x) → P A looked) {f : Format} {s : FilterOf A} {c : Call} (t : Told f (looked FilterOf s) c) where
  pub sent_back : {r : AnswerOf A} → r ≡ record { filter = s; refusal = t.told } → (t.told.number ≡ 0 → ⊥) → looked AnswerOf r ≡ answered (step f (looked FilterOf s) c)
  sent_back e h = ap (looked AnswerOf) e ∙ seen_answer same s t.told ∙ turned_away t h

-- ---- readings: of the first k numbers of w, which need only be v where they are not stale; j is k at sizes up to 8

module _ (f : Format) (s : Filter) (c : Call) (k : ℕ) (stale : Bool) (b v w : List Float) where
  pub has_read : {r : Verdict} {j : ℕ} {b' : List Float} → asks (seen s) c ≡ line true s.sheet.n [] (lend b k) stale [] [] → plan f (seen s) c ≡ finish (done reads (take k w)) → (stale ≡ false → v ≡ w) → (s.sheet.n ≤ 8 → j ≡ k) → (r ≡ first_refusal f (line true s.sheet.n [] (lend b j) stale [] [])) × (b' ≡ over (or [] (guarded f (line true s.sheet.n [] (lend b j) stale [] []) (accepted (take j v)))) b) → (r ≡ (step f s c).reply.refusal) × (b' ≡ over (step f s c).reply.given b)
  unfolding step run
  has_read {r} {j} {b'} p q same h e =
      let a = line true s.sheet.n [] (lend b k) stale [] [] in
      let d = done reads (take k w) in
      let is : step f s c ≡ stepped s (guarded f a (accepted d)) = ap₂ (λ (x : Asks) (y : Plan Done). stepped s (guarded f x (run y))) p q in (
        e.0 ∙ counted_first f true s.sheet.n (λ (i : ℕ). lend b i) stale (λ (i : ℕ). []) h ∙ sym (number_given f a d) ∙ both_ways f a refusal (λ (o : Outcome Done). (stepped s o).reply.refusal) d d refl (λ x. refl) ∙ ap (λ (t : Stepped). t.reply.refusal) (sym is),
        e.1 ∙ ap (λ (o : Outcome (List Float)). over (or [] o) b) (counted f true s.sheet.n (λ (i : ℕ). lend b i) stale (λ (i : ℕ). []) (λ (i : ℕ). accepted (take i v)) h ∙ unless_stale f a _ _ (λ z. ap (λ (l : List Float). accepted (take k l)) (same z)))
            ∙ ap (λ (l : List Float). over l b) (both_ways f a (or []) (λ (o : Outcome Done). (stepped s o).reply.given) (take k w) d refl (λ x. refl) ∙ ap (λ (t : Stepped). t.reply.given) (sym is)),
      )

-- ---- a plan that is passed on, by what it comes to

module _ {f : Format} {s : Filter} {c : Call} (t : Told f s c) (z : t.told.number ≡ 0) {A : Type 0} (g : A → Done) (p : Plan A) (is : plan f (seen s) c ≡ mapped g p) where
  pub comes_refused : {r : Refusal} → refused r ≡ run p → step f s c ≡ stayed s (verdict r)
  comes_refused e = comes t z g p is ∙ ap (λ (o : Outcome A). stepped s (onward o (λ (a : A). accepted (g a)))) (sym e)

  pub comes_made : {a : A} → accepted a ≡ run p → step f s c ≡ stepped s (accepted (g a))
  comes_made e = comes t z g p is ∙ ap (λ (o : Outcome A). stepped s (onward o (λ (a : A). accepted (g a)))) (sym e)
