-- Computed examples at f32: alike filters with different leftovers exist, the demands speak of them, and what they tell is not constant. Assumes nothing.
use mathlib.Core.Path.{◌≡◌, refl}
use mathlib.Core.Bool.{true}
use mathlib.Core.List.{List, [], ◌∷◌, map}
use lib.ListN.{replicate}
use lib.Ieee.{Float, binary32, of_int, to_bits, add, sub, mul, rem, div, neg, lt, le, size, odd}
use Rattle.floats.specs.Numbers.{all_finite, above_zero, zeros}
use Rattle.floats.specs.Search.{searched, searched_from}
use Rattle.floats.specs.Fronts.{front}
use Rattle.root.specs.Definition.{root_of, rooted, root_units, near_root, floor_root}
use Rattle.angles.specs.declared.Kind.TheVariants.{Plain, Turn}
use Rattle.angles.specs.Wrap.{half_turn, wrap_step, brought}
use Rattle.matrix.specs.Folds.{total_of, places_of, built_of, row_of, rows_of}
use Rattle.matrix.specs.Results.{worked, run}
use Rattle.matrix.specs.Factor.{rows_from, column_of, columns_from}
use Rattle.matrix.specs.Inverse.{unit_at}
use Rattle.sigma.specs.Weights.{lambda_of, scale_of, w0m_of, w0c_of, wi_of, weights_pass}
use Rattle.sigma.specs.Draw.{point_at}
use Rattle.filter.specs.Types.{Filter}
use Rattle.filter.specs.Asked.{in_range, guarded}
use Rattle.filter.specs.Steps.{step}
use Rattle.filter.specs.New.{new_of}
use Rattle.script.specs.Text.{same_bytes}
use Rattle.demands.specs.Written.{int, minus, frac, ◌is◌, ◌are◌, failing}
use Rattle.demands.specs.Runs.{tells, Alike}
use Rattle.demands.specs.Cases.{at_first, c1, three, story, against}
use Rattle.demands.specs.Useless.{at_will, leftovers}
use Rattle.demands.proofs.Examples.{last_x}
use Rattle.demands32.specs.Calls.{set_kind, set_x, set_p, open_prediction, open_correction, close_prediction, close_correction, read_points, read_stale, Call, writing, setting, closing, abandon, reading, as_call}
use Rattle.demands32.specs.Runs.{told, Yielded, fresh_made, put_at_will}

-- the filter of C9 at f32, and the same with points, weights and scratch put at will
abbrev first_one : Filter
first_one = at_first binary32

abbrev second_one : Filter
second_one = at_will binary32

pub alike : Alike first_one second_one
unfolding new_of all_finite above_zero lt weights_pass lambda_of scale_of w0m_of w0c_of wi_of of_int add sub mul div in_range
alike = record { sheet = refl; track = record { x = refl; p = refl; stale₁ = refl; stale₂ = refl; shut₁ = refl; shut₂ = refl } }

pub second_yielded : Yielded second_one
second_yielded = put_at_will second_one (fresh_made 1 (int 2 ∷ []) (int 4 ∷ []) (int 1 ∷ []) c1) alike

-- a prediction; a correction's close with one plain measurement
abbrev predicted : Float → Float → Float → List Call
predicted a b c = setting (open_prediction three) ∷ closing (close_prediction (a ∷ b ∷ c ∷ [])) ∷ []

abbrev measuring : Float → List Float → Call
measuring z observed = closing (close_correction 1 (z ∷ []) (int 12 ∷ []) (replicate 4 Plain) observed)

-- the calls of C9 to C12
abbrev called : List Call
called =
    setting (open_prediction three)
    ∷ closing (close_prediction (int 2 ∷ int 4 ∷ int 0 ∷ []))
    ∷ reading (read_points three)
    ∷ reading read_stale
    ∷ setting (open_correction three)
    ∷ measuring (int 3) (int 2 ∷ int 4 ∷ int 0 ∷ [])
    ∷ reading read_stale
    ∷ reading (read_points three)
    ∷ setting (open_correction three)
    ∷ measuring (frac 17 4) (frac 9 4 ∷ frac 17 4 ∷ frac 1 4 ∷ [])
    ∷ setting (set_x (int 3 ∷ []))
    ∷ setting (set_p (int 4 ∷ []))
    ∷ setting (open_correction three)
    ∷ abandon
    ∷ writing (set_kind 0 (Turn (int 180)))
    ∷ setting (open_prediction three)
    ∷ closing (close_prediction (int 179 ∷ minus 171 ∷ int 169 ∷ []))
    ∷ []

-- they are those of the table
pub called_by_the_table : map as_call called ≡ map (λ e. e.1.0) story
called_by_the_table = refl

pub record Computed : Type 0 where
  -- the leftovers of the two differ: points, weights, and scratch, what a stepped call would keep among it
  pub first_left : (leftovers first_one.track are (int 0 ∷ int 0 ∷ int 0 ∷ int 0 ∷ int 0 ∷ [])) ≡ true
  pub second_left : (leftovers second_one.track are (int 3 ∷ int 7 ∷ int 6 ∷ int 7 ∷ int 9 ∷ [])) ≡ true
  -- two predictions on one filter that end at different x
  pub ends_at_2 : (last_x (told second_one (predicted (int 2) (int 4) (int 0))) are (int 2 ∷ [])) ≡ true
  pub ends_at_3 : (last_x (told second_one (predicted (int 3) (int 5) (int 1))) are (int 3 ∷ [])) ≡ true
  -- and C9 to C12, called one after the other, tell of the second what they are to tell of the first
  pub by_the_table : failing (against story (told second_one called)) ≡ []

pub computed : Computed
unfolding half_turn wrap_step brought ◌is◌ ◌are◌ same_bytes of_int to_bits add sub mul rem div neg lt le size odd all_finite above_zero zeros front root_of rooted root_units near_root floor_root total_of places_of built_of row_of rows_of worked run rows_from column_of columns_from unit_at lambda_of scale_of w0m_of w0c_of wi_of weights_pass point_at in_range guarded searched searched_from step new_of tells told
computed = record { first_left = refl; second_left = refl; ends_at_2 = refl; ends_at_3 = refl; by_the_table = refl }
