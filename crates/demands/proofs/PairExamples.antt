-- Computed examples on a pair: alike pairs with different leftovers exist and what they tell is not constant; each thing that a side can notice of the other is noticed; and a sheet change that was refused must be struck with the open call that refused it. Assumes nothing.
use Prim.Native.Nat.{ℕ}
use native.Mathlib.Omega.{arith}
use mathlib.Core.Path.{◌≡◌, refl}
use mathlib.Core.Bool.{Bool, true, false}
use mathlib.Core.List.{List, [], ◌∷◌, ◌++◌, map}
use mathlib.Core.Logic.{inr}
use lib.ListN.{take, drop}
use lib.Ieee.{Float, binary64, of_int, to_bits, add, sub, mul, rem, div, neg, lt, le, size, odd}
use Rattle.floats.specs.Numbers.{all_finite, above_zero, zeros}
use Rattle.floats.specs.Search.{searched, searched_from}
use Rattle.floats.specs.Fronts.{front}
use Rattle.root.specs.Definition.{root_of, rooted, root_units, near_root, floor_root}
use Rattle.angles.specs.Wrap.{half_turn, wrap_step, brought}
use Rattle.matrix.specs.Folds.{total_of, places_of, built_of, row_of, rows_of}
use Rattle.matrix.specs.Results.{worked, run}
use Rattle.matrix.specs.Factor.{rows_from, column_of, columns_from}
use Rattle.sigma.specs.Weights.{lambda_of, scale_of, w0m_of, w0c_of, wi_of, weights_pass}
use Rattle.sigma.specs.Draw.{point_at}
use Rattle.filter.specs.Asked.{in_range, guarded}
use Rattle.filter.specs.Calls.{Call, writing, setting, closing, reading, set_q, set_params, open_prediction, close_prediction, read_q, read_x, read_stale, set_x, abandon}
use Rattle.filter.specs.Steps.{step}
use Rattle.pairs.specs.declared.Pair.{Pair}
use Rattle.pairs.specs.declared.Side.{Side}
use Rattle.pairs.specs.declared.Side.TheVariants.{First, Second}
use Rattle.pairs.specs.Pairs.{pair, track_at, pair_step}
use Rattle.pairs.specs.NewPair.{new_pair_of}
use Rattle.demands.specs.Runs.{tells}
use Rattle.demands.specs.Written.{int, minus, ◌is◌, ◌are◌}
use Rattle.demands.specs.Cases.{c1, three, both}
use Rattle.demands.specs.Useless.{strewn, leftovers}
use Rattle.demands.specs.PairRuns.{SideCall, by, SideTold, pair_tells, pair_told, pair_ran, of_side, own, turned_away, wrote, hears, notices, AlikePairs, reaches, nobody, updated, PairStruck, none_left, call_kept, refused_struck, open_struck, own_struck, abandon_struck, pair_rest}
use Rattle.demands.specs.PairSound.{AtWill, PairYielded, pair_made, pair_at_will}
use Rattle.demands.proofs.Rows.{two_ways}
use Rattle.demands.proofs.PairOpening.{opening_struck}

-- ---- two alike pairs: that of the table, and the same with points, weights and scratch of each side put at will

abbrev at_will : Pair
at_will = pair both.sheet (strewn both.first (int 7)) (strewn both.second (int 5))

pub alike : AlikePairs both at_will
unfolding new_pair_of all_finite above_zero lt weights_pass lambda_of scale_of w0m_of w0c_of wi_of of_int add sub mul div in_range
alike = record {
  sheet = refl;
  first = record { x = refl; p = refl; stale₁ = refl; stale₂ = refl; shut₁ = refl; shut₂ = refl };
  second = record { x = refl; p = refl; stale₁ = refl; stale₂ = refl; shut₁ = refl; shut₂ = refl };
}

-- the second is one that the demands speak of
pub at_will_yielded : PairYielded binary64 at_will
at_will_yielded = pair_at_will at_will (pair_made 1 (int 2 ∷ []) (int 4 ∷ []) (int 3 ∷ []) (int 16 ∷ []) (int 1 ∷ []) c1) refl (λ w. sides w)
  where
    sides : (w : Side) → AtWill (track_at both w) (track_at at_will w)
    sides First = inr alike.first
    sides Second = inr alike.second

-- ---- what is computed

abbrev numbers : List SideTold → List ℕ
numbers = map (λ t. t.told.reply.refusal.number)

abbrev last_given : List SideTold → List Float
last_given [] = []
last_given (t ∷ []) = t.told.reply.given
last_given (t ∷ u ∷ ts) = last_given (u ∷ ts)

abbrev last_stale : List SideTold → Bool
last_stale [] = true
last_stale (t ∷ []) = t.told.reply.stale
last_stale (t ∷ u ∷ ts) = last_stale (u ∷ ts)

abbrev opens : Call
opens = setting (open_prediction three)

abbrev writes_q : Call
writes_q = writing (set_q (int 7 ∷ []))

abbrev reads_q : Call
reads_q = reading (read_q (int 0 ∷ []))

abbrev reads_x : Call
reads_x = reading (read_x (int 0 ∷ []))

abbrev mixed : List SideCall
mixed = by Second writes_q ∷ by Second (setting (set_x (int 5 ∷ []))) ∷ by First reads_q ∷ by Second opens ∷ by First writes_q ∷ []

abbrev predicts : List SideCall
predicts = by First opens ∷ by First (closing (close_prediction (int 2 ∷ int 4 ∷ int 0 ∷ []))) ∷ []

pub record Computed : Type 0 where
  -- the leftovers of the two differ, on both sides
  pub fresh_left : (leftovers both.first are (int 0 ∷ int 0 ∷ int 0 ∷ int 0 ∷ int 0 ∷ [])) ≡ true
  pub fresh_left_too : (leftovers both.second are (int 0 ∷ int 0 ∷ int 0 ∷ int 0 ∷ int 0 ∷ [])) ≡ true
  pub will_left : (leftovers at_will.first are (int 3 ∷ int 7 ∷ int 6 ∷ int 7 ∷ int 9 ∷ [])) ≡ true
  pub will_left_too : (leftovers at_will.second are (int 3 ∷ int 5 ∷ int 6 ∷ int 5 ∷ int 9 ∷ [])) ≡ true
  -- what they tell is not constant: the two sides of the second open at different points
  pub first_opens : (last_given (pair_told binary64 at_will (by First opens ∷ [])) are (int 2 ∷ int 4 ∷ int 0 ∷ [])) ≡ true
  pub second_opens : (last_given (pair_told binary64 at_will (by First opens ∷ by Second opens ∷ [])) are (int 3 ∷ int 7 ∷ minus 1 ∷ [])) ≡ true
  -- the sheet's contents: Q set through the second is read by the first
  pub contents : (last_given (pair_told binary64 both (by Second writes_q ∷ by First reads_q ∷ [])) are (int 7 ∷ [])) ≡ true
  -- the marks: after its prediction the first is not stale; parameters set through the second mark it, Q does not
  pub params_mark : last_stale (pair_told binary64 both (predicts ++ (by Second (writing (set_params c1)) ∷ by First (reading read_stale) ∷ []))) ≡ true
  pub q_marks_not : last_stale (pair_told binary64 both (predicts ++ (by Second writes_q ∷ by First (reading read_stale) ∷ []))) ≡ false
  -- the refusal: 0 to a sheet change with nothing open; 3 while the second has a call open, and 0 to a reading
  pub no_refusal : numbers (pair_told binary64 both (by First writes_q ∷ by First reads_q ∷ [])) ≡ 0 ∷ 0 ∷ []
  pub refusal : numbers (pair_told binary64 both (by Second opens ∷ by First writes_q ∷ by First reads_q ∷ [])) ≡ 0 ∷ 3 ∷ 0 ∷ []
  -- while the first has a call open a sheet change is refused; without that open call it is taken (`contents`), and the next reading of Q is another
  pub with_open : (last_given (pair_told binary64 both (by First opens ∷ by Second writes_q ∷ by First abandon ∷ by First reads_q ∷ [])) are (int 1 ∷ [])) ≡ true
  -- what the first hears of a run, and what it notices: Q set by the second, then read; its own change of Q turned away while the second has a call open. Of the second's x it hears nothing
  pub heard : hears binary64 First both mixed ≡ wrote (set_q (int 7 ∷ [])) ∷ own reads_q ∷ turned_away ∷ []
  pub noticing : map (λ k. k.turned) (notices binary64 First false both mixed) ≡ false ∷ true ∷ []
  pub told_of_it : map (λ t. t.reply.refusal.number) (of_side First (pair_told binary64 both mixed)) ≡ 0 ∷ 3 ∷ []
  -- a mark set by the second meets the first at its next call
  pub marked_once : map (λ k. k.mark) (notices binary64 First false both (by Second (writing (set_params c1)) ∷ by First reads_q ∷ by First reads_q ∷ [])) ≡ true ∷ false ∷ []

pub computed : Computed
unfolding half_turn wrap_step brought ◌is◌ ◌are◌ of_int to_bits add sub mul rem div neg lt le size odd all_finite above_zero zeros front root_of rooted root_units near_root floor_root total_of places_of built_of row_of rows_of worked run rows_from column_of columns_from lambda_of scale_of w0m_of w0c_of wi_of weights_pass point_at in_range guarded searched searched_from step new_pair_of tells pair_step pair_tells pair_told of_side hears notices
computed = record { fresh_left = refl; fresh_left_too = refl; will_left = refl; will_left_too = refl; first_opens = refl; second_opens = refl; contents = refl; params_mark = refl; q_marks_not = refl; no_refusal = refl; refusal = refl; with_open = refl; heard = refl; noticing = refl; told_of_it = refl; marked_once = refl }

-- ---- calls struck out

three_is_refused : ◌≡◌ {A = ℕ} 3 0 → ⊥
three_is_refused e = omega arith

-- an open of the first, a reading of its own, the second's sheet change that it refused, and its abandon; a reading by the second in between stays
abbrev long : List SideCall
long = by First opens ∷ by First reads_q ∷ by Second writes_q ∷ by Second reads_x ∷ by First abandon ∷ by First reads_q ∷ []

abbrev short : List SideCall
short = by Second reads_x ∷ by First reads_q ∷ []

second_clear : (v : Side) → reaches Second reads_x v ≡ true → updated First true nobody v ≡ false
second_clear First h = absurd (two_ways h refl)
second_clear Second h = refl

none_struck : (v : Side) → updated First false (updated First true nobody) v ≡ false
none_struck First = refl
none_struck Second = refl

pub struck : PairStruck binary64 nobody both long short
unfolding of_int add sub mul rem div neg lt le size odd all_finite above_zero zeros front root_of rooted root_units near_root floor_root total_of places_of row_of rows_of worked run rows_from column_of columns_from lambda_of scale_of w0m_of w0c_of wi_of weights_pass point_at in_range guarded searched searched_from step new_pair_of pair_step
struck = open_struck refl refl refl (own_struck refl refl (refused_struck three_is_refused (call_kept second_clear (abandon_struck refl (call_kept (λ v h. none_struck v) (none_left none_struck))))))

-- what is left of the long run is told as it was told there, at the fourth call and at the last
pub left_told : pair_rest binary64 struck ≡ take 1 (drop 3 (pair_told binary64 both long)) ++ drop 5 (pair_told binary64 both long)
unfolding struck pair_rest pair_told
left_told = refl

-- the same by the law of an open call up to its abandon
pub struck_so : PairStruck binary64 nobody both long short
unfolding of_int add sub mul rem div neg lt le size odd all_finite above_zero zeros front root_of rooted root_units near_root floor_root total_of places_of row_of rows_of worked run rows_from column_of columns_from lambda_of scale_of w0m_of w0c_of wi_of weights_pass point_at in_range guarded searched searched_from step new_pair_of pair_step pair_ran
struck_so = opening_struck binary64 First (by First reads_q ∷ []) (by First reads_q ∷ []) both (open_prediction three) (by First reads_q ∷ by Second writes_q ∷ by Second reads_x ∷ []) refl (refl, (refl, (refl, refl))) (call_kept (λ v h. refl) (none_left (λ v. refl)))
