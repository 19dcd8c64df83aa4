-- The order of refusals: tests as the code makes them give the first refusal of what a call asks; where it is 0 every test has passed and the steps decide, and else it refuses. Assumes nothing.
use native.Mathlib.Omega.{arith}
use mathlib.Core.Path.{◌≡◌, refl, ap, ◌∙◌}
use mathlib.Core.Bool.{Bool, true, false}
use mathlib.Core.List.{[]}
use lib.Ieee.{Format}
use Rattle.floats.specs.declared.Verdict.{Verdict}
use Rattle.floats.specs.declared.Refusal.{Refusal}
use Rattle.floats.specs.declared.Refusal.TheVariants.{Size as SIZE, Short as SHORT, Stage as STAGE, Record as RECORD, Stale as STALE, Fresh as FRESH, Kind as KIND, Param as PARAM}
use Rattle.floats.specs.Refusal.{verdict, taken, earlier, Outcome, refused, accepted, refusal, nothing}
use Rattle.floats.specs.Search.{searched}
use Rattle.floats.proofs.Refusals.{number_above, earlier_refused}
use Rattle.floats.proofs.Search.{found_nothing}
use Rattle.angles.specs.Kinds.{is_plain}
use Rattle.filter.specs.Asked.{Asks, within, long, fit, every, in_order, guarded, first_refusal}

-- ---- over any eight tests and any search

pub same_number : (a₁ a₂ a₃ a₄ a₅ a₆ : Bool) (a₇ : Outcome Bool) (a₈ a₉ b₁ b₂ b₃ b₄ b₅ b₆ : Bool) (b₇ : Outcome Bool) (b₈ b₉ : Bool) → a₁ ≡ b₁ → a₂ ≡ b₂ → (b₂ ≡ true → a₃ ≡ b₃) → a₄ ≡ b₄ → a₅ ≡ b₅ → a₆ ≡ b₆ → (b₂ ≡ true → a₇ ≡ b₇) → a₈ ≡ b₈ → (b₂ ≡ true → a₉ ≡ b₉) → refusal (in_order a₁ a₂ a₃ a₄ a₅ a₆ a₇ a₈ a₉ nothing) ≡ refusal (in_order b₁ b₂ b₃ b₄ b₅ b₆ b₇ b₈ b₉ nothing)
unfolding in_order
same_number a₁ a₂ a₃ a₄ a₅ a₆ a₇ a₈ a₉ false b₂ b₃ b₄ b₅ b₆ b₇ b₈ b₉ e₁ e₂ e₃ e₄ e₅ e₆ e₇ e₈ e₉ = rw e₁
same_number a₁ a₂ a₃ a₄ a₅ a₆ a₇ a₈ a₉ true false b₃ b₄ b₅ b₆ b₇ b₈ b₉ e₁ e₂ e₃ e₄ e₅ e₆ e₇ e₈ e₉ = rw (e₁, e₂)
same_number a₁ a₂ a₃ a₄ a₅ a₆ a₇ a₈ a₉ true true b₃ b₄ b₅ b₆ b₇ b₈ b₉ e₁ e₂ e₃ e₄ e₅ e₆ e₇ e₈ e₉ = rw (e₁, e₂, e₃ refl, e₄, e₅, e₆, e₇ refl, e₈, e₉ refl)

pub all_pass : (a₁ a₂ a₃ a₄ a₅ a₆ : Bool) (a₇ : Outcome Bool) (a₈ a₉ : Bool) → (refusal (in_order a₁ a₂ a₃ a₄ a₅ a₆ a₇ a₈ a₉ nothing)).number ≡ 0 → (a₁ ≡ true) × (a₂ ≡ true) × (a₃ ≡ true) × (a₄ ≡ true) × (a₅ ≡ false) × (a₆ ≡ false) × ((refusal a₇).number ≡ 0) × (a₈ ≡ true) × (a₉ ≡ true)
unfolding in_order
all_pass true true true true false false (accepted t) true true h = (refl, refl, refl, refl, refl, refl, refl, refl, refl)
all_pass false a₂ a₃ a₄ a₅ a₆ a₇ a₈ a₉ h = absurd (omega arith)
all_pass true false a₃ a₄ a₅ a₆ a₇ a₈ a₉ h = absurd (omega arith)
all_pass true true false a₄ a₅ a₆ a₇ a₈ a₉ h = absurd (omega arith)
all_pass true true true false a₅ a₆ a₇ a₈ a₉ h = absurd (omega arith)
all_pass true true true true true a₆ a₇ a₈ a₉ h = absurd (omega arith)
all_pass true true true true false true a₇ a₈ a₉ h = absurd (omega arith)
all_pass true true true true false false (refused r) a₈ a₉ h = absurd (omega (arith, number_above r))
all_pass true true true true false false (accepted t) false a₉ h = absurd (omega arith)
all_pass true true true true false false (accepted t) true false h = absurd (omega arith)

pub one_fails : {A : Type 0} (a₁ a₂ a₃ a₄ a₅ a₆ : Bool) (a₇ : Outcome Bool) (a₈ a₉ : Bool) (o : Outcome A) → ((refusal (in_order a₁ a₂ a₃ a₄ a₅ a₆ a₇ a₈ a₉ nothing)).number ≡ 0 → ⊥) → (r : Refusal) × (in_order a₁ a₂ a₃ a₄ a₅ a₆ a₇ a₈ a₉ o ≡ refused r) × (verdict r ≡ refusal (in_order a₁ a₂ a₃ a₄ a₅ a₆ a₇ a₈ a₉ nothing))
unfolding in_order
one_fails false a₂ a₃ a₄ a₅ a₆ a₇ a₈ a₉ o h = (STAGE, refl, refl)
one_fails true false a₃ a₄ a₅ a₆ a₇ a₈ a₉ o h = (SIZE, refl, refl)
one_fails true true false a₄ a₅ a₆ a₇ a₈ a₉ o h = (SHORT, refl, refl)
one_fails true true true false a₅ a₆ a₇ a₈ a₉ o h = (RECORD, refl, refl)
one_fails true true true true true a₆ a₇ a₈ a₉ o h = (STALE, refl, refl)
one_fails true true true true false true a₇ a₈ a₉ o h = (FRESH, refl, refl)
one_fails true true true true false false (refused r) a₈ a₉ o h = (r, refl, refl)
one_fails true true true true false false (accepted t) false a₉ o h = (KIND, refl, refl)
one_fails true true true true false false (accepted t) true false o h = (PARAM, refl, refl)
one_fails true true true true false false (accepted t) true true o h = absurd (h refl)

-- what is made of two outcomes, once every test has passed and where one refuses, is alike if it is in both cases
pub through : {A B C : Type 0} (g : Outcome A → C) (h : Outcome B → C) (o : Outcome A) (p : Outcome B) → g o ≡ h p → ((r : Refusal) → g (refused r) ≡ h (refused r)) → (a₁ a₂ a₃ a₄ a₅ a₆ : Bool) (a₇ : Outcome Bool) (a₈ a₉ : Bool) → g (in_order a₁ a₂ a₃ a₄ a₅ a₆ a₇ a₈ a₉ o) ≡ h (in_order a₁ a₂ a₃ a₄ a₅ a₆ a₇ a₈ a₉ p)
unfolding in_order
through g h o p e d false a₂ a₃ a₄ a₅ a₆ a₇ a₈ a₉ = d STAGE
through g h o p e d true false a₃ a₄ a₅ a₆ a₇ a₈ a₉ = d SIZE
through g h o p e d true true false a₄ a₅ a₆ a₇ a₈ a₉ = d SHORT
through g h o p e d true true true false a₅ a₆ a₇ a₈ a₉ = d RECORD
through g h o p e d true true true true true a₆ a₇ a₈ a₉ = d STALE
through g h o p e d true true true true false true a₇ a₈ a₉ = d FRESH
through g h o p e d true true true true false false (refused r) a₈ a₉ = d r
through g h o p e d true true true true false false (accepted t) false a₉ = d KIND
through g h o p e d true true true true false false (accepted t) true false = d PARAM
through g h o p e d true true true true false false (accepted t) true true = e

-- so where both are accepted
pub alike : {A B C : Type 0} (g : Outcome A → C) (h : Outcome B → C) (x : A) (y : B) → g (accepted x) ≡ h (accepted y) → ((r : Refusal) → g (refused r) ≡ h (refused r)) → (a₁ a₂ a₃ a₄ a₅ a₆ : Bool) (a₇ : Outcome Bool) (a₈ a₉ : Bool) → g (in_order a₁ a₂ a₃ a₄ a₅ a₆ a₇ a₈ a₉ (accepted x)) ≡ h (in_order a₁ a₂ a₃ a₄ a₅ a₆ a₇ a₈ a₉ (accepted y))
alike g h x y = through g h (accepted x) (accepted y)

-- what comes before the search, what the search has found and what comes after it, one after the other
in_turn : (a₁ a₂ a₃ a₄ a₅ a₆ : Bool) (o : Outcome Bool) (a₈ a₉ : Bool) → earlier (refusal (in_order a₁ a₂ a₃ a₄ a₅ a₆ nothing true true nothing)) (earlier (refusal o) (refusal (in_order true true true true false false nothing a₈ a₉ nothing))) ≡ refusal (in_order a₁ a₂ a₃ a₄ a₅ a₆ o a₈ a₉ nothing)
unfolding in_order
in_turn false a₂ a₃ a₄ a₅ a₆ o a₈ a₉ = refl
in_turn true false a₃ a₄ a₅ a₆ o a₈ a₉ = refl
in_turn true true false a₄ a₅ a₆ o a₈ a₉ = refl
in_turn true true true false a₅ a₆ o a₈ a₉ = refl
in_turn true true true true true a₆ o a₈ a₉ = refl
in_turn true true true true false true o a₈ a₉ = refl
in_turn true true true true false false (refused r) a₈ a₉ = earlier_refused r _
in_turn true true true true false false (accepted t) a₈ a₉ = refl

-- v is what was found, and r what is told then; o is the search that has found it
pub found_in_turn : (a₁ a₂ a₃ a₄ a₅ a₆ : Bool) (o : Outcome Bool) (a₈ a₉ : Bool) {v r : Verdict} → r ≡ earlier (refusal (in_order a₁ a₂ a₃ a₄ a₅ a₆ nothing true true nothing)) (earlier v (refusal (in_order true true true true false false nothing a₈ a₉ nothing))) → v ≡ refusal o → r ≡ refusal (in_order a₁ a₂ a₃ a₄ a₅ a₆ o a₈ a₉ nothing)
found_in_turn a₁ a₂ a₃ a₄ a₅ a₆ o a₈ a₉ e d = e ∙ ap (λ (u : Verdict). earlier (refusal (in_order a₁ a₂ a₃ a₄ a₅ a₆ nothing true true nothing)) (earlier u (refusal (in_order true true true true false false nothing a₈ a₉ nothing)))) d ∙ in_turn a₁ a₂ a₃ a₄ a₅ a₆ o a₈ a₉

-- ---- over what a call asks

-- no numbers come in
pub none : nothing ≡ searched []
unfolding searched
none = refl

-- every test has passed
pub record Passed (f : Format) (a : Asks) : Type 0 where
  pub fits : a.fits ≡ true
  pub sized : every within a.sizes ≡ true
  pub long : every long a.lent ≡ true
  pub formed : a.formed ≡ true
  pub stale : a.stale ≡ false
  pub fresh : a.fresh ≡ false
  pub found : searched a.inputs ≡ nothing
  pub plain : every is_plain a.plain ≡ true
  pub passing : every (fit f) a.params ≡ true

-- what the code's tests have told
pub record Gives (f : Format) (a : Asks) : Type 0 where
  pub told : Verdict
  pub is : told ≡ first_refusal f a

module _ (f : Format) (a : Asks) where
  -- the tests as the code makes them, where no numbers are searched: past the sizes they need only be right where those pass
  pub tested_early : {fits sized long' formed stale fresh : Bool} (o : Outcome Bool) {plain pass : Bool} {r : Verdict} → r ≡ refusal (in_order fits sized long' formed stale fresh o plain pass nothing) → fits ≡ a.fits → sized ≡ every within a.sizes → (every within a.sizes ≡ true → long' ≡ every long a.lent) → formed ≡ a.formed → stale ≡ a.stale → fresh ≡ a.fresh → (every within a.sizes ≡ true → o ≡ searched a.inputs) → plain ≡ every is_plain a.plain → (every within a.sizes ≡ true → pass ≡ every (fit f) a.params) → r ≡ first_refusal f a
  unfolding first_refusal
  tested_early {fits} {sized} {long'} {formed} {stale} {fresh} o {plain} {pass} e e₁ e₂ e₃ e₄ e₅ e₆ e₇ e₈ e₉ = e ∙ same_number fits sized long' formed stale fresh o plain pass a.fits (every within a.sizes) (every long a.lent) a.formed a.stale a.fresh (searched a.inputs) (every is_plain a.plain) (every (fit f) a.params) e₁ e₂ e₃ e₄ e₅ e₆ e₇ e₈ e₉

  -- and with what a search o has found
  pub tested : {fits sized long' formed stale fresh : Bool} (o : Outcome Bool) {found : Verdict} {plain pass : Bool} {r : Verdict} → r ≡ earlier (refusal (in_order fits sized long' formed stale fresh nothing true true nothing)) (earlier found (refusal (in_order true true true true false false nothing plain pass nothing))) → found ≡ refusal o → fits ≡ a.fits → sized ≡ every within a.sizes → (every within a.sizes ≡ true → long' ≡ every long a.lent) → formed ≡ a.formed → stale ≡ a.stale → fresh ≡ a.fresh → (every within a.sizes ≡ true → o ≡ searched a.inputs) → plain ≡ every is_plain a.plain → (every within a.sizes ≡ true → pass ≡ every (fit f) a.params) → r ≡ first_refusal f a
  tested {fits} {sized} {long'} {formed} {stale} {fresh} o {plain = plain} {pass = pass} e d = tested_early o (found_in_turn fits sized long' formed stale fresh o plain pass e d)

  pub passed : (first_refusal f a).number ≡ 0 → Passed f a
  unfolding first_refusal
  passed e =
      let t = all_pass a.fits (every within a.sizes) (every long a.lent) a.formed a.stale a.fresh (searched a.inputs) (every is_plain a.plain) (every (fit f) a.params) e in
      record { fits = t.0; sized = t.1; long = t.2; formed = t.3; stale = t.4; fresh = t.5; found = found_nothing a.inputs t.6; plain = t.7; passing = t.8 }

  module _ {A : Type 0} (o : Outcome A) where
    pub goes_on : (first_refusal f a).number ≡ 0 → guarded f a o ≡ o
    unfolding guarded
    goes_on e = let t = passed e in rw (t.fits, t.sized, t.long, t.formed, t.stale, t.fresh, t.found, t.plain, t.passing)

    pub refuses : ((first_refusal f a).number ≡ 0 → ⊥) → (r : Refusal) × (guarded f a o ≡ refused r) × (verdict r ≡ first_refusal f a)
    unfolding first_refusal
    refuses h = one_fails a.fits (every within a.sizes) (every long a.lent) a.formed a.stale a.fresh (searched a.inputs) (every is_plain a.plain) (every (fit f) a.params) o h

  -- where the number is 0 so is the place
  pub none_told : (first_refusal f a).number ≡ 0 → first_refusal f a ≡ taken
  unfolding first_refusal
  none_told e = ap refusal (goes_on nothing e)

  pub guarded_through : {A B C : Type 0} (g : Outcome A → C) (h : Outcome B → C) (o : Outcome A) (p : Outcome B) → g o ≡ h p → ((r : Refusal) → g (refused r) ≡ h (refused r)) → g (guarded f a o) ≡ h (guarded f a p)
  unfolding guarded
  guarded_through g h o p e d = through g h o p e d a.fits (every within a.sizes) (every long a.lent) a.formed a.stale a.fresh (searched a.inputs) (every is_plain a.plain) (every (fit f) a.params)

  pub both_ways : {A B C : Type 0} (g : Outcome A → C) (h : Outcome B → C) (x : A) (y : B) → g (accepted x) ≡ h (accepted y) → ((r : Refusal) → g (refused r) ≡ h (refused r)) → g (guarded f a (accepted x)) ≡ h (guarded f a (accepted y))
  both_ways g h x y e d = guarded_through g h (accepted x) (accepted y) e d

  pub number_given : {A : Type 0} (x : A) → refusal (guarded f a (accepted x)) ≡ first_refusal f a
  unfolding first_refusal
  number_given x = both_ways refusal refusal x true refl (λ r. refl)

  module _ {A : Type 0} (o p : Outcome A) where
    stopped : a.stale ≡ true → guarded f a o ≡ guarded f a p
    unfolding guarded
    stopped e = rw e

    -- what is not seen while stale
    pub unless_stale : (a.stale ≡ false → o ≡ p) → guarded f a o ≡ guarded f a p
    unless_stale h = go a.stale refl
      where
        go : (t : Bool) → a.stale ≡ t → guarded f a o ≡ guarded f a p
        go false e = ap (guarded f a) (h e)
        go true e = stopped e
