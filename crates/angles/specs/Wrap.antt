-- The wrap of d by h: d less the multiple of 2h that brings it into (-h, h], over a format f. Definitions only.
use Rattle.std.specs.Prelude.{Bool, ◌&&◌, cond, [], ◌∷◌, Float}
use Rattle.std.specs.Float.{Format}
use Rattle.std.specs.Float.Ieee.{neg, add, sub, rem, lt, le}
use Rattle.std.specs.Float.Ieee.Scale.{finite}
use Rattle.floats.specs.declared.Refusal.TheVariants.{Param as PARAM}
use Rattle.floats.specs.Refusal.{bad_lone, Outcome, accepted, or, unless}
use Rattle.floats.specs.Numbers.{plus_zero, all_finite}

module _ (f : Format) where
  -- with p = 2h and the remainder r: if r > h, r − 2h; else if r ≤ −h, r + 2h; else r
  unfoldable pub brought : Float → Float → Float → Float
  brought h p r = cond (lt h r) (sub f r p) (cond (le r (neg h)) (add f r p) r)

  -- r = d % 2h, sign of d; these lines serve any two values, finite or not
  unfoldable pub wrap_step : Float → Float → Float
  unfolding brought
  wrap_step d h = brought h (add f h h) (rem f d (add f h h))

  -- what 6 asks of a half-turn: h above 0 and 2h finite
  unfoldable pub half_turn : Float → Bool
  half_turn h = lt plus_zero h && finite (add f h h)

  -- callers may wrap too: 56 where d or h isn't finite, then 6
  unfoldable pub wrap_of : Float → Float → Outcome Float
  unfolding wrap_step half_turn
  wrap_of d h = unless (all_finite (d ∷ h ∷ [])) bad_lone (unless (half_turn h) PARAM (accepted (wrap_step d h)))

-- the number that is shown of what a wrap comes to: the value; refused, it gives +0
abbrev pub shown : Outcome Float → Float
shown o = or plus_zero o
