-- The measurement that a close of a correction is lent, as the code takes it in: tested in the order of the refusals beside what else the close asks, and laid out in arrays. Definitions only.
use Rattle.std.specs.Prelude.{ℕ, Bool, true, false, List, ◌∷◌, Float}
use Rattle.floats.specs.declared.Verdict.{Verdict}
use Rattle.floats.specs.Refusal.{Outcome, accepted, refusal, or}
use Rattle.floats.specs.Numbers.{zeros}
use Rattle.floats.specs.Search.{searched}
use Rattle.filter.specs.Types.{Intake}
use Rattle.filter.specs.Asked.{within, long, every, in_order}
use Rattle.filter.specs.Calls.{sized, lent_measured, inputs_measured, measurement}

-- what is lent to a filter of n states, the half-turns that are searched with it, and what else the close has tested: that it fits, that the kinds that have to be plain are, that its kinds pass 6
pub record Lending : Type 0 where
  pub fits : Bool
  pub n : ℕ
  pub m : ℕ
  pub z : List Float
  pub r : List Float
  pub observed : List Float
  pub turns : List Float
  pub plain : Bool
  pub passing : Bool

module _ (l : Lending) where
  -- 1 and 2 of what is lent; 53 to 56 of it and of the half-turns
  abbrev pub sizes_do : Bool
  sizes_do = every within (record { value = l.n; from = 1; to = 8 } ∷ sized l.m 1 4)

  abbrev pub long_enough : Bool
  long_enough = every long (lent_measured l.n l.m l.z l.r l.observed)

  abbrev pub searched_in : Outcome Bool
  searched_in = searched (inputs_measured l.n l.m l.z l.r l.observed l.turns)

  abbrev pub lent_in_order : {A : Type 0} → Outcome A → Outcome A
  lent_in_order o = in_order l.fits sizes_do long_enough true false false searched_in l.plain l.passing o

  abbrev pub taken_in : Outcome Intake
  taken_in = lent_in_order (accepted (measurement l.n l.m l.z l.r l.observed))

-- refused: +0 throughout
abbrev pub unmeasured : Verdict → Intake
unmeasured v = record { refusal = v; z = zeros 8; r = zeros 64; observed = zeros 136 }

abbrev pub measured : Outcome Intake → Intake
measured o = or (unmeasured (refusal o)) o
