-- The pairs that the demands speak of. Definitions only.
use Rattle.std.specs.Prelude.{ℕ, ◌≡◌, List, ◌⊎◌, Float}
use Rattle.std.specs.Float.{Format}
use Rattle.sigma.specs.Weights.{Params}
use Rattle.filter.specs.Types.{Track}
use Rattle.filter.specs.Calls.{Call}
use Rattle.pairs.specs.declared.Pair.{Pair}
use Rattle.pairs.specs.declared.Side.{Side}
use Rattle.pairs.specs.Pairs.{track_at, pair_step}
use Rattle.pairs.specs.NewPair.{new_pair_answer}
use Rattle.demands.specs.Runs.{AlikeTracks}

-- a track as it was, or with points, weights and scratch put at will
abbrev pub AtWill : Track → Track → Type 0
AtWill s t = (s ≡ t) ⊎ AlikeTracks s t

module _ (f : Format) where
  -- those that New and later calls yield
  pub data PairReached : Pair → Type 0 where
    pair_new : (n : ℕ) (x₁ p₁ x₂ p₂ q : List Float) (params : Params) → PairReached (new_pair_answer f n x₁ p₁ x₂ p₂ q params).pair
    pair_further : {p : Pair} → PairReached p → (w : Side) (c : Call) → PairReached (pair_step f p w c).pair

  -- the pairs that the demands speak of: those, and such pairs in which a side that is stale with no call open, or both such sides, have points, weights and scratch put at will
  pub data PairYielded : Pair → Type 0 where
    pair_made : (n : ℕ) (x₁ p₁ x₂ p₂ q : List Float) (params : Params) → PairYielded (new_pair_answer f n x₁ p₁ x₂ p₂ q params).pair
    pair_stepped : {p : Pair} → PairYielded p → (w : Side) (c : Call) → PairYielded (pair_step f p w c).pair
    pair_at_will : {p : Pair} (q : Pair) → PairYielded p → p.sheet ≡ q.sheet → ((w : Side) → AtWill (track_at p w) (track_at q w)) → PairYielded q
