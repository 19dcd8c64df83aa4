-- New of a pair: from n, x and P of the first, x and P of the second, Q and the parameters. 1 and 2 are each looked for in all of these before the next; then the numbers are searched, x and P of the first, x and P of the second, Q, parameters; then 6. Refused, both sides are empty. Definitions only.
use Rattle.std.specs.Prelude.{ℕ, List, [], ◌∷◌, Float}
use Rattle.std.specs.Float.{Format}
use Rattle.floats.specs.Refusal.{Outcome, accepted, refusal, or}
use Rattle.sigma.specs.Weights.{Params}
use Rattle.filter.specs.Asked.{Asks, guarded}
use Rattle.filter.specs.New.{empty_sheet, empty_track, from, new_asks, sheet_from, track_from}
use Rattle.pairs.specs.declared.Pair.{Pair}
use Rattle.pairs.specs.declared.PairAnswer.{PairAnswer}
use Rattle.pairs.specs.Pairs.{pair}

abbrev pub empty_pair : Pair
empty_pair = pair empty_sheet empty_track empty_track

abbrev pub new_pair_asks : ℕ → List Float → List Float → List Float → List Float → List Float → Params → Asks
new_pair_asks n x₁ p₁ x₂ p₂ q params = new_asks n (from x₁ p₁ ∷ from x₂ p₂ ∷ []) q params

module _ (f : Format) (n : ℕ) (x₁ p₁ x₂ p₂ q : List Float) (params : Params) where
  unfoldable pub new_pair_of : Outcome Pair
  unfolding guarded
  new_pair_of = guarded f (new_pair_asks n x₁ p₁ x₂ p₂ q params) (accepted (pair (sheet_from n q params) (track_from n (from x₁ p₁)) (track_from n (from x₂ p₂))))

  abbrev pub new_pair_answer : PairAnswer
  new_pair_answer = record { pair = or empty_pair new_pair_of; refusal = refusal new_pair_of }
