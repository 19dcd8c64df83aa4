-- THE CLAIM: no case of the table fails, at either width. One claim, computed. Assumes nothing.
use mathlib.Core.Path.{◌≡◌, refl}
use mathlib.Core.List.{[]}
use lib.Ieee.{of_int, of_bits, to_bits, add, sub, mul, rem, div, neg, lt, le, size, odd}
use Rattle.floats.specs.Numbers.{all_finite, above_zero, zeros}
use Rattle.floats.specs.Search.{searched, searched_from}
use Rattle.floats.specs.Fronts.{front}
use Rattle.root.specs.Definition.{root_of, rooted, root_units, near_root, floor_root}
use Rattle.angles.specs.Wrap.{wrap_of, half_turn, wrap_step, brought}
use Rattle.matrix.specs.Folds.{total_of, places_of, built_of, row_of, rows_of}
use Rattle.matrix.specs.Results.{worked, run}
use Rattle.matrix.specs.Factor.{rows_from, column_of, columns_from}
use Rattle.matrix.specs.Inverse.{unit_at}
use Rattle.sigma.specs.Weights.{lambda_of, scale_of, w0m_of, w0c_of, wi_of, weights_pass}
use Rattle.sigma.specs.Draw.{point_at}
use Rattle.pieces.specs.Bytes.{little_endian, word_of, number_bytes, number_at, kind_bytes, kind_at, formed, written, read_each}
use Rattle.filter.specs.Asked.{in_range, guarded}
use Rattle.filter.specs.Records.{bytes_of}
use Rattle.filter.specs.Steps.{step}
use Rattle.filter.specs.New.{new_of}
use Rattle.filter.specs.Load.{load_of}
use Rattle.filter.specs.Point as Point
use Rattle.pairs.specs.Pairs.{pair_step}
use Rattle.pairs.specs.NewPair.{new_pair_of}
use Rattle.script.specs.Text.{same_bytes}
use Rattle.demands.specs.Runs.{tells, told}
use Rattle.demands.specs.PairRuns.{pair_tells, pair_told}
use Rattle.demands.specs.Written.{◌is◌, ◌are◌, failing_at}
use Rattle.demands.specs.Cases.{cases}

pub claim : failing_at cases ≡ []
unfolding ◌is◌ ◌are◌ same_bytes of_int of_bits to_bits add sub mul rem div neg lt le size odd all_finite above_zero zeros front root_of rooted root_units near_root floor_root wrap_of half_turn wrap_step brought total_of places_of built_of row_of rows_of worked run rows_from column_of columns_from unit_at lambda_of scale_of w0m_of w0c_of wi_of weights_pass point_at in_range guarded searched searched_from Point.point_at Point.point_refusal step new_of tells told pair_step new_pair_of pair_tells pair_told little_endian word_of number_bytes number_at kind_bytes kind_at formed written read_each bytes_of load_of
claim = refl
