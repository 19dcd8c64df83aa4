-- One step of a filter: every contract of a call cites it. A refused call changes nothing and hands out nothing. Definitions only.
use Rattle.std.specs.Prelude.{ℕ, Bool, true, List, [], get_or, Float}
use Rattle.std.specs.Float.{Format}
use Rattle.floats.specs.declared.Verdict.{Verdict}
use Rattle.floats.specs.Refusal.{verdict, taken, Outcome, refused, accepted}
use Rattle.floats.specs.Numbers.{plus_zero}
use Rattle.matrix.specs.Results.{run}
use Rattle.sigma.specs.Weights.{Params}
use Rattle.sigma.specs.Predict.{Moment}
use Rattle.filter.specs.Types.{Filter}
use Rattle.filter.specs.Types.{Answer}
use Rattle.filter.specs.Types.{ParamsRead}
use Rattle.filter.specs.declared.StaleRead.{StaleRead}
use Rattle.filter.specs.Asked.{guarded}
use Rattle.filter.specs.Filters.{seen, closed_with, changed}
use Rattle.filter.specs.Calls.{Call, asks, Done, plan}

-- what a call comes to on a filter as seen
abbrev pub outcome : Format → Filter → Call → Outcome Done
outcome f s c = guarded f (asks s c) (run (plan f s c))

-- what a call tells: its number and place, the numbers that it hands out, which go to the front of the lent buffer, a reading's stale mark, and the bytes of a saved record, which go to the front of the lent bytes
pub record Reply : Type 0 where
  pub refusal : Verdict
  pub given : List Float
  pub stale : Bool
  pub bytes : List ℕ

pub record Stepped : Type 0 where
  pub filter : Filter
  pub reply : Reply

abbrev pub stepped : Filter → Outcome Done → Stepped
stepped s (refused r) = record { filter = s; reply = record { refusal = verdict r; given = []; stale = true; bytes = [] } }
stepped s (accepted d) = record { filter = changed s d.change; reply = record { refusal = taken; given = d.given; stale = d.stale; bytes = d.bytes } }

unfoldable pub step : Format → Filter → Call → Stepped
unfolding guarded run
step f s c = stepped s (outcome f (seen s) c)

-- ---- as the code hands it back

abbrev pub answered : Stepped → Answer
answered t = record { filter = t.filter; refusal = t.reply.refusal }

-- a close by what its steps have made: refused, or x and P set, with the points and the opened weights installed
abbrev pub closed_by : Filter → List Float → Bool → Outcome Moment → Answer
closed_by s points stale (refused r) = record { filter = s; refusal = verdict r }
closed_by s points stale (accepted m) = record { filter = closed_with s points stale m.x m.p; refusal = taken }

-- three numbers, or +0s where a reading is refused
abbrev pub params_of : List Float → Params
params_of v = record { alpha = get_or v 0 plus_zero; beta = get_or v 1 plus_zero; kappa = get_or v 2 plus_zero }

abbrev pub params_read : Reply → ParamsRead
params_read r = record { refusal = r.refusal; params = params_of r.given }

abbrev pub stale_read : Reply → StaleRead
stale_read r = record { refusal = r.refusal; stale = r.stale }
