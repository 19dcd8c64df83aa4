-- Demand 3: nothing left over counts. Over every format, every run of calls and every filter, sound or not. Assumes nothing.
use mathlib.Core.Path.{◌≡◌}
use mathlib.Core.Bool.{true}
use mathlib.Core.List.{List, [], ◌∷◌, ◌++◌}
use lib.Ieee.{Format}
use Rattle.filter.specs.Types.{Filter}
use Rattle.filter.specs.Filters.{is_shut, abandoned}
use Rattle.filter.specs.Calls.{Call, abandon}
use Rattle.filter.specs.Steps.{step}
use Rattle.demands.specs.Runs.{told, ran_to, Alike, StaysOpen, Struck, rest}
use Rattle.demands.proofs.Leftover.{nothing_left_over, striking, opening_abandoned}

module _ (f : Format) where
  -- Two filters of one size, nothing open, both stale, alike but for points, weights and scratch: any same calls, refused ones included, tell the same.
  pub same_told : (s t : Filter) → Alike s t → (cs : List Call) → told f s cs ≡ told f t cs
  same_told = nothing_left_over f

  -- Striking refused calls, or an open with everything up to its abandon, changes none of the rest.
  pub same_rest : {s : Filter} {cs ds : List Call} (k : Struck f s cs ds) → rest f k ≡ told f s ds
  same_rest k = striking f k

  -- For an open call, abandoned, leaves the filter as it was in every bit but scratch, which is +0.
  pub abandon_restores : (s : Filter) (c : Call) (mid : List Call) → is_shut s.track.stage ≡ true → StaysOpen f (step f s c).filter mid → ran_to f s (c ∷ mid ++ (abandon ∷ [])) ≡ abandoned s
  abandon_restores = opening_abandoned f
