-- Works and plans (specs/Results.antt): the first result that fails decides, and a work is accepted where none fails; then the steps of code that follows a plan,
-- in the code's own terms. What is left of the plan comes to the whole outcome. Assumes nothing.
use Prim.Native.Nat.{ℕ}
use mathlib.Core.Path.{◌≡◌, refl, sym, ap, ◌∙◌}
use mathlib.Core.Bool.{Bool, true, false}
use mathlib.Core.List.{List, [], ◌∷◌, ◌++◌}
use mathlib.Core.Logic.{◌↔◌, ⊎_elim}
use lib.ListN.{take}
use lib.Ieee.{Float, Format}
use Rattle.floats.specs.declared.Refusal.{Refusal}
use Rattle.floats.specs.declared.Refusal.TheVariants.{Range as RANGE}
use Rattle.floats.specs.Refusal.{Outcome, refused, accepted, unless, onward}
use Rattle.floats.specs.Numbers.{all_finite}
use Rattle.floats.proofs.Refusals.{refused_never, onward_same, onward_unless, passed, failed}
use Rattle.root.specs.Definition.{root_of}
use Rattle.root.specs.Answer.{root_outcome}
use Rattle.matrix.specs.Results.{Result, rooting, good, refusal_of, First, now, later, Work, made, check, worked, results, product, then, listed, Plan, finish, after, run, planned}
use Rattle.matrix.proofs.Roots.{root_value, root_refused}

-- ---- works

-- every result of the list is good
pub data AllGood : List Result → Type 0 where
  none : AllGood []
  more : {v : Result} {vs : List Result} → good v ≡ true → AllGood vs → AllGood (v ∷ vs)

module _ {A : Type 0} where
  refused_first : (w : Work A) (r : Refusal) → worked w ≡ refused r → First r (results w)
  unfolding worked
  refused_first (made a) r e = absurd (refused_never (sym e))
  refused_first (check v w) r e =
      ⊎_elim (λ h. rw (sym h.1) (now h.0)) (λ h. later h.0 (refused_first w r h.1)) (failed (good v) (refusal_of v) r (worked w) e)

  first_refused : (w : Work A) (r : Refusal) → First r (results w) → worked w ≡ refused r
  unfolding worked
  first_refused (made a) r h = elim h [ ]
  first_refused (check v w) r (now h) = rw h
  first_refused (check v w) r (later h f) = rw h (first_refused w r f)

  -- A WORK IS REFUSED BY r JUST WHERE THE FIRST RESULT THAT FAILS IS
  pub work_refused : (w : Work A) (r : Refusal) → (worked w ≡ refused r) ↔ First r (results w)
  work_refused w r = (refused_first w r, first_refused w r)

  accepted_good : (w : Work A) (a : A) → worked w ≡ accepted a → AllGood (results w) × (a ≡ product w)
  unfolding worked
  accepted_good (made b) a e = (none, cc)
  accepted_good (check v w) a e =
      let h = passed (good v) (refusal_of v) (worked w) a e in
      let i = accepted_good w a h.1 in
      (more h.0 i.0, i.1)

  good_accepted : (w : Work A) → AllGood (results w) → worked w ≡ accepted (product w)
  unfolding worked
  good_accepted (made a) none = refl
  good_accepted (check v w) (more h g) = rw h (good_accepted w g)

  -- and is accepted just where all are good, with what it has made
  pub work_accepted : (w : Work A) (a : A) → (worked w ≡ accepted a) ↔ (AllGood (results w) × (a ≡ product w))
  work_accepted w a = (accepted_good w a, λ h. good_accepted w h.0 ∙ ap accepted (sym h.1))

  pub worked_then : {B : Type 0} (w : Work A) (k : A → Work B) → worked (then w k) ≡ onward (worked w) (λ (a : A). worked (k a))
  unfolding worked
  worked_then (made a) k = refl
  worked_then (check v w) k = ap (unless (good v) (refusal_of v)) (worked_then w k) ∙ sym (onward_unless (good v) (refusal_of v) (worked w) (λ (a : A). worked (k a)))

  pub results_then : {B : Type 0} (w : Work A) (k : A → Work B) → results (then w k) ≡ results w ++ results (k (product w))
  results_then (made a) k = refl
  results_then (check v w) k = ap (λ (vs : List Result). v ∷ vs) (results_then w k)

-- ---- plans

module _ {A : Type 0} where
  -- a plan's works as one
  abbrev pub whole : Plan A → Work A
  whole (finish a) = made a
  whole (after w k) = then w (λ b. whole (k b))

  pub run_whole : (p : Plan A) → run p ≡ worked (whole p)
  unfolding run worked
  run_whole (finish a) = refl
  run_whole (after w k) = onward_same (worked w) _ _ (λ b. run_whole (k b)) ∙ sym (worked_then w (λ b. whole (k b)))

  pub planned_whole : (p : Plan A) → planned p ≡ results (whole p)
  planned_whole (finish a) = refl
  planned_whole (after w k) = ap (λ (vs : List Result). results w ++ vs) (planned_whole (k (product w))) ∙ sym (results_then w (λ b. whole (k b)))

  -- A PLAN IS REFUSED BY r JUST WHERE THE FIRST OF ITS RESULTS THAT FAILS IS
  pub plan_refused : (p : Plan A) (r : Refusal) → (run p ≡ refused r) ↔ First r (planned p)
  plan_refused p r = rw (run_whole p, planned_whole p) (work_refused (whole p) r)

  pub plan_accepted : (p : Plan A) (a : A) → (run p ≡ accepted a) ↔ (AllGood (planned p) × (a ≡ product (whole p)))
  plan_accepted p a = rw (run_whole p, planned_whole p) (work_accepted (whole p) a)

-- ---- code that follows a plan

-- what is left of the plan comes to the outcome o
pub record Comes {A : Type 0} (o : Outcome A) (p : Plan A) : Type 0 where
  pub is : o ≡ run p

module _ {A : Type 0} where
  pub begin : {p : Plan A} → Comes (run p) p
  begin = record { is = refl }

  pub ends : {o : Outcome A} {a : A} → Comes o (finish a) → o ≡ accepted a
  unfolding run
  ends at = at.is

  -- u is the result, and b what the test of its first m numbers said
  module _ {o : Outcome A} {v : List Float} {κ : List Float → Plan A} (m : ℕ) (at : Comes o (after (listed m v) κ)) {u : List Float} (e : u ≡ v) {b : Bool} (t : b ≡ all_finite (take m u)) where
    pub goes : b ≡ true → Comes o (κ u)
    unfolding run worked
    goes h = record { is = rw (← e, ← t, h) at at.is }

    pub stops : b ≡ false → o ≡ refused RANGE
    unfolding run worked
    stops h = rw (← e, ← t, h) at at.is

  -- q is what the step answered
  module _ {o : Outcome A} {B : Type 0} {w : Work B} {κ : B → Plan A} (at : Comes o (after w κ)) {q : Outcome B} (told : q ≡ worked w) where
    pub after_goes : {u : B} → q ≡ accepted u → Comes o (κ u)
    unfolding run
    after_goes t = record { is = rw (← told, t) at at.is }

    pub after_stops : {r : Refusal} → q ≡ refused r → o ≡ refused r
    unfolding run
    after_stops t = rw (← told, t) at at.is

  -- x is a number whose root is taken, and q the outcome of that
  module _ (f : Format) {o : Outcome A} {x : Float} {κ : Float → Plan A} (at : Comes o (after (check (rooting x) (made (root_of f x))) κ)) {q : Outcome Float} (told : q ≡ root_outcome f x) where
    pub root_goes : (d : Float) → q ≡ accepted d → Comes o (κ d)
    unfolding run worked
    root_goes d t = let h = root_value f x told t in record { is = rw (h.0, h.1) at at.is }

    pub root_stops : {r : Refusal} → q ≡ refused r → o ≡ refused r
    unfolding run worked
    root_stops t = let h = root_refused f x told t in rw h.1 (rw h.0 at at.is)
