-- Residual kinds: plain, or a turn that carries its half-turn h. Definitions only.
use Rattle.std.specs.Prelude.{Bool, true, false, ℤ, Float}
use Rattle.std.specs.Float.{Format}
use Rattle.std.specs.Float.Ieee.Scale.{finite}
use Rattle.floats.specs.declared.Refusal.TheVariants.{Param as PARAM}
use Rattle.floats.specs.Refusal.{bad_lone, Outcome, accepted, unless}
use Rattle.floats.specs.Numbers.{plus_zero}
use Rattle.floats.specs.Powers.{times}
use Rattle.angles.specs.Wrap.{wrap_step, half_turn}
use Rattle.angles.specs.declared.Kind.{Kind as Kind_of}
pub use Rattle.angles.specs.declared.Kind.TheVariants.{Plain, Turn}

-- a kind whose half-turn is a float
abbrev pub Kind : Type 0
Kind = Kind_of Float

abbrev pub plain : Kind
plain = Plain

abbrev pub is_plain : Kind → Bool
is_plain Plain = true
is_plain (Turn h) = false

-- a difference d passed through the kind: as it is, or wrapped
abbrev pub through_of : Format → Kind → Float → Float
through_of f Plain d = d
through_of f (Turn h) d = wrap_step f d h

-- the number that a kind brings in: its half-turn; of a plain one +0, which the search passes, so that each kind of a list keeps its place
abbrev pub half_of : Kind → Float
half_of Plain = plus_zero
half_of (Turn h) = h

-- with the half-turn times 2 ^ k, as in another unit
abbrev pub turn_times : ℤ → Kind → Kind
turn_times k Plain = Plain
turn_times k (Turn h) = Turn (times k h)

-- whether it passes 6
abbrev pub passes : Format → Kind → Bool
passes f Plain = true
passes f (Turn h) = half_turn f h

-- the check of a kind: 56 where h isn't finite, then 6
abbrev pub kind_of : Format → Kind → Outcome Kind
kind_of f k = unless (finite (half_of k)) bad_lone (unless (passes f k) PARAM (accepted k))
