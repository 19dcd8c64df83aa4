-- What a call that is taken has passed, and what its steps have made: the two ways to go by cases on an outcome. Assumes nothing.
use mathlib.Core.Path.{◌≡◌, refl, sym, ◌∙◌}
use mathlib.Core.Bool.{Bool, true, false, not, ◌&&◌, cond}
use mathlib.Core.List.{List, [], ◌∷◌}
use borrow.Author.Tests.{not-true}
use lib.Ieee.{Format}
use Rattle.floats.specs.declared.Refusal.{Refusal}
use Rattle.floats.specs.declared.Refusal.TheVariants.{Size as SIZE, Short as SHORT, Stage as STAGE, Stale as STALE, Param as PARAM, Kind as KIND, Fresh as FRESH, Record as RECORD}
use Rattle.floats.specs.Refusal.{Outcome, refused, accepted, unless, onward}
use Rattle.angles.specs.Kinds.{is_plain}
use Rattle.floats.specs.Numbers.{all_finite}
use Rattle.floats.specs.Search.{Input, searched}
use Rattle.matrix.specs.Results
use Rattle.matrix.specs.Results.{Work, product, then, Plan, finish, after, run, mapped}
use Rattle.floats.proofs.Refusals.{refused_never}
use Rattle.floats.proofs.Search.{first_good}
use Rattle.matrix.proofs.Results.{whole, plan_accepted}
use Rattle.matrix.proofs.Mapped.{run_mapped}
use Rattle.filter.specs.Asked.{Asks, within, long, fit, every, guarded}
use Rattle.demands.proofs.Rows.{two_ways}

-- ---- tests

pub both : {a b : Bool} → (a && b) ≡ true → (a ≡ true) × (b ≡ true)
both {a = true} h = (refl, h)
both {a = false} h = absurd (two_ways h refl)

pub both_true : {a b : Bool} → a ≡ true → b ≡ true → (a && b) ≡ true
both_true {a = true} h k = k
both_true {a = false} h k = h

-- each of a list passes: a pair for each, so that its parts are .0, .1 .0, ..
abbrev pub Pass : {A : Type 0} → (A → Bool) → List A → Type 0
Pass t [] = Unit {0}
Pass t (x ∷ l) = (t x ≡ true) × Pass t l

pub pass : {A : Type 0} (t : A → Bool) (l : List A) → every t l ≡ true → Pass t l
pass t [] h = tt
pass t (x ∷ l) h = let k = both h in (k.0, pass t l k.1)

-- the numbers of a slice that come in are finite
abbrev pub finite_in : Input → Bool
finite_in i = all_finite i.numbers

pub searched_finite : (l : List Input) {t : Bool} → searched l ≡ accepted t → Pass finite_in l
searched_finite [] e = tt
searched_finite (x ∷ l) e = let w = first_good x l e in (w.0, searched_finite l w.1)

-- ---- what is asked

pub record Passed (f : Format) (a : Asks) : Type 0 where
  pub fits : a.fits ≡ true
  pub sizes : Pass within a.sizes
  pub lent : Pass long a.lent
  pub formed : a.formed ≡ true
  pub stale : a.stale ≡ false
  pub fresh : a.fresh ≡ false
  pub inputs : Pass finite_in a.inputs
  pub plain : every is_plain a.plain ≡ true
  pub params : every (fit f) a.params ≡ true

-- what holds of every refusal, and of the steps' outcome once all is passed, holds of the whole
module _ {A : Type 0} (P : Outcome A → Type 0) (never : (r : Refusal) → P (refused r)) where
  layer : (t : Bool) (r : Refusal) (o : Outcome A) → (t ≡ true → P o) → P (unless t r o)
  layer true r o h = h refl
  layer false r o h = never r

  search : (l : List Input) (o : Outcome A) → (Pass finite_in l → P o) → P (onward (searched l) (λ (t : Bool). o))
  search l o h = go (searched l) refl
    where
      go : (q : Outcome Bool) → searched l ≡ q → P (onward q (λ (t : Bool). o))
      go (refused r) e = never r
      go (accepted t) e = h (searched_finite l e)

  pub by_cases : (f : Format) (a : Asks) (o : Outcome A) → (Passed f a → P o) → P (guarded f a o)
  unfolding guarded
  by_cases f a o h =
      layer a.fits STAGE _ (λ h1.
      layer (every within a.sizes) SIZE _ (λ h2.
      layer (every long a.lent) SHORT _ (λ h3.
      layer a.formed RECORD _ (λ h4.
      layer (not a.stale) STALE _ (λ h5.
      layer (not a.fresh) FRESH _ (λ h6.
      search a.inputs _ (λ h7.
      layer (every is_plain a.plain) KIND _ (λ h8.
      layer (every (fit f) a.params) PARAM _ (λ h9.
      h (record { fits = h1; sizes = pass within a.sizes h2; lent = pass long a.lent h3; formed = h4; stale = not-true a.stale h5; fresh = not-true a.fresh h6; inputs = h7; plain = h8; params = h9 }))))))))))

-- ---- the steps

-- whatever the plan is accepted with has P
abbrev pub Ran : {A : Type 0} → Plan A → (A → Type 0) → Type 0
Ran {A} p P = (a : A) → run p ≡ accepted a → P a

module _ {A : Type 0} (P : A → Type 0) where
  -- of a plan's outcome: what holds of every refusal, and of what the plan is accepted with, holds of it
  pub run_cases : (Q : Outcome A → Type 0) → ((r : Refusal) → Q (refused r)) → (p : Plan A) → Ran p P → ((a : A) → P a → Q (accepted a)) → Q (run p)
  run_cases Q never p h taken = go (run p) h
    where
      go : (o : Outcome A) → ((a : A) → o ≡ accepted a → P a) → Q o
      go (refused r) i = never r
      go (accepted a) i = taken a (i a refl)

  pub ran_finish : (a : A) → P a → Ran (finish a) P
  unfolding run
  ran_finish a h b e = let s : a ≡ b = cc in rw (← s) h

  pub ran_either : (t : Bool) (p q : Plan A) → (t ≡ true → Ran p P) → (t ≡ false → Ran q P) → Ran (cond t p q) P
  ran_either true p q h k = h refl
  ran_either false p q h k = k refl

pub ran_mapped : {A B : Type 0} (P : B → Type 0) (g : A → B) (p : Plan A) → Ran p (λ a. P (g a)) → Ran (mapped g p) P
ran_mapped {A} P g p h b e = go (run p) h (sym (run_mapped g p) ∙ e)
  where
    go : (o : Outcome A) → ((a : A) → o ≡ accepted a → P (g a)) → onward o (λ (a : A). accepted (g a)) ≡ accepted b → P b
    go (refused r) i k = absurd (refused_never k)
    go (accepted a) i k = let s : g a ≡ b = cc in rw (← s) (i a refl)

pub mapped_ran : {A B : Type 0} (g : A → B) (p : Plan A) → Ran (mapped g p) (λ (b : B). (a : A) × (run p ≡ accepted a) × (b ≡ g a))
mapped_ran {A} g p = ran_mapped _ g p (λ a e. (a, e, refl))

-- ---- what an accepted plan has made: each work's product, on to the end

product_then : {A B : Type 0} (w : Work A) (k : A → Work B) → product (then w k) ≡ product (k (product w))
product_then (Results.made a) k = refl
product_then (Results.check v w) k = product_then w k

module _ {A : Type 0} where
  abbrev pub made : Plan A → A
  made (finish a) = a
  made (after w k) = made (k (product w))

  made_whole : (p : Plan A) → product (whole p) ≡ made p
  made_whole (finish a) = refl
  made_whole (after w k) = product_then w (λ b. whole (k b)) ∙ made_whole (k (product w))

  pub ran_made : (p : Plan A) → Ran p (λ (a : A). a ≡ made p)
  ran_made p a e = ((plan_accepted p a).0 e).1 ∙ made_whole p
