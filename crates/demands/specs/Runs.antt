-- Runs of calls, what they tell, and what demand 3 speaks of: filters alike but for what is left over, and calls struck out. Definitions only.
use Rattle.std.specs.Prelude.{◌≡◌, Bool, true, false, Float}
use mathlib.Core.List.{List, [], ◌∷◌, ◌++◌}
use Rattle.std.specs.Float.{Format}
use Rattle.filter.specs.Types.{Filter}
use Rattle.filter.specs.Types.{Track}
use Rattle.filter.specs.declared.Stage.TheVariants.{Shut}
use Rattle.filter.specs.Filters.{is_shut}
use Rattle.filter.specs.Calls.{Call, abandon}
use Rattle.filter.specs.Steps.{Reply, Stepped, step}

-- what a call tells, and the state, covariance and stale mark after it
pub record Told : Type 0 where
  pub reply : Reply
  pub x : List Float
  pub p : List Float
  pub stale : Bool

unfoldable pub tells : Stepped → Told
tells s = record { reply = s.reply; x = s.filter.track.x; p = s.filter.track.p; stale = s.filter.track.stale }

module _ (f : Format) where
  unfoldable pub told : Filter → List Call → List Told
  unfolding step
  told s [] = []
  told s (c ∷ cs) = tells (step f s c) ∷ told (step f s c).filter cs

  -- the filter after a run
  unfoldable pub ran_to : Filter → List Call → Filter
  unfolding step
  ran_to s [] = s
  ran_to s (c ∷ cs) = ran_to (step f s c).filter cs

-- two tracks, nothing open, both stale, with the same state and covariance, whatever their points, weights and scratch
pub record AlikeTracks (s t : Track) : Type 0 where
  pub x : s.x ≡ t.x
  pub p : s.p ≡ t.p
  pub stale₁ : s.stale ≡ true
  pub stale₂ : t.stale ≡ true
  pub shut₁ : s.stage ≡ Shut
  pub shut₂ : t.stage ≡ Shut

-- two such filters that agree on the sheet: one size, the same process noise, parameters and residual kinds
pub record Alike (s t : Filter) : Type 0 where
  pub sheet : s.sheet ≡ t.sheet
  pub track : AlikeTracks s.track t.track

module _ (f : Format) where
  -- s has a call open, and still has one after each of the calls
  abbrev pub StaysOpen : Filter → List Call → Type 0
  StaysOpen s [] = is_shut s.track.stage ≡ false
  StaysOpen s (c ∷ cs) = (is_shut s.track.stage ≡ false) × StaysOpen (step f s c).filter cs

  -- the second list is the first with some refused calls, and some opens with everything up to their abandon, struck out; the filter is the one that the first list is run on
  pub data Struck : Filter → List Call → List Call → Type 0 where
    none_left : {s : Filter} → Struck s [] []
    call_kept : {s : Filter} {c : Call} {cs ds : List Call} → Struck (step f s c).filter cs ds → Struck s (c ∷ cs) (c ∷ ds)
    refused_struck : {s : Filter} {c : Call} {cs ds : List Call} → ((step f s c).reply.refusal.number ≡ 0 → ⊥) → Struck (step f s c).filter cs ds → Struck s (c ∷ cs) ds
    opening_struck :
        {s : Filter} (c : Call) (mid : List Call) {cs ds : List Call} → is_shut s.track.stage ≡ true → StaysOpen (step f s c).filter mid
        → Struck (ran_to f s (c ∷ mid ++ (abandon ∷ []))) cs ds → Struck s ((c ∷ mid ++ (abandon ∷ [])) ++ cs) ds

  -- what the run of the first list tells at the calls that are not struck
  unfoldable pub rest : {s : Filter} {cs ds : List Call} → Struck s cs ds → List Told
  rest none_left = []
  rest (call_kept {s = s} {c = c} k) = tells (step f s c) ∷ rest k
  rest (refused_struck r k) = rest k
  rest (opening_struck c mid sh st k) = rest k
