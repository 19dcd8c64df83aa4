-- Computed examples: alike filters with different leftovers exist and what they tell is not constant; and each useless build breaks a statement, named beside it. Assumes nothing.
use Prim.Native.Nat.{ℕ}
use mathlib.Core.Path.{◌≡◌, refl, sym, ap, ◌∙◌}
use mathlib.Core.Bool.{Bool, true, false}
use mathlib.Core.List.{List, [], ◌∷◌, ◌++◌, map}
use native.Mathlib.Omega.{arith}
use lib.ListN.{take}
use lib.Ieee.{Float, binary64, of_int, to_bits, add, sub, mul, rem, div, neg, lt, le, size, odd}
use Rattle.floats.specs.declared.Refusal.{Refusal}
use Rattle.floats.specs.Numbers.{all_finite, above_zero, zeros}
use Rattle.floats.specs.Search.{searched, searched_from}
use Rattle.floats.specs.Fronts.{front}
use Rattle.root.specs.Definition.{root_of, rooted, root_units, near_root, floor_root}
use Rattle.angles.specs.Wrap.{half_turn, wrap_step, brought}
use Rattle.matrix.specs.Folds.{total_of, places_of, built_of, row_of, rows_of}
use Rattle.matrix.specs.Results.{worked, run}
use Rattle.matrix.specs.Factor.{rows_from, column_of, columns_from}
use Rattle.matrix.specs.Inverse.{unit_at}
use Rattle.floats.proofs.Refusals.{number_above, number_of}
use Rattle.sigma.specs.Weights.{lambda_of, scale_of, w0m_of, w0c_of, wi_of, weights_pass}
use Rattle.sigma.specs.Draw.{point_at}
use Rattle.filter.specs.Types.{Filter}
use Rattle.filter.specs.Asked.{in_range, guarded}
use Rattle.filter.specs.Filters.{is_correcting}
use Rattle.filter.specs.Calls.{Call, setting, closing, reading, open_prediction, open_correction, close_prediction, read_stale, set_x, abandon}
use Rattle.filter.specs.Steps.{step}
use Rattle.filter.specs.New.{new_of}
use Rattle.script.specs.Text.{same_bytes}
use Rattle.demands.specs.Runs.{Told, tells, told, ran_to, Alike, Struck, none_left, call_kept, refused_struck, opening_struck}
use Rattle.demands.specs.Sound.{Yielded, fresh_made, put_at_will}
use Rattle.demands.specs.Written.{int, frac, ◌is◌, ◌are◌, failing}
use Rattle.demands.specs.Cases.{at_first, c1, three, measuring, story, against, call_cases}
use Rattle.demands.specs.Useless.{right, ExactlyWhen, told_by, table_by, NothingLeftOver, refusing, constant, untouched, first_only, at_will, leftovers}
use Rattle.demands.proofs.Rows.{two_ways}
use Rattle.demands.proofs.Exactly.{exactly}
use Rattle.demands.proofs.Leftover.{nothing_left_over}

-- ---- two alike filters: the filter of C9, and the same with points, weights and scratch put at will

pub alike : Alike (at_first binary64) (at_will binary64)
unfolding new_of all_finite above_zero lt weights_pass lambda_of scale_of w0m_of w0c_of wi_of of_int add sub mul div in_range
alike = record { sheet = refl; track = record { x = refl; p = refl; stale₁ = refl; stale₂ = refl; shut₁ = refl; shut₂ = refl } }

-- the second is one that the demands speak of
pub at_will_yielded : Yielded binary64 (at_will binary64)
at_will_yielded = put_at_will (at_will binary64) (fresh_made 1 (int 2 ∷ []) (int 4 ∷ []) (int 1 ∷ []) c1) alike

-- ---- what is computed

abbrev pub predicted : Float → Float → Float → List Call
predicted a b c = setting (open_prediction three) ∷ closing (close_prediction (a ∷ b ∷ c ∷ [])) ∷ []

abbrev corrected : Float → List Call
corrected z = setting (open_correction three) ∷ measuring z (int 2 ∷ int 4 ∷ int 0 ∷ []) ∷ []

abbrev pub last_x : List Told → List Float
last_x [] = []
last_x (t ∷ []) = take 1 t.x
last_x (t ∷ u ∷ ts) = last_x (u ∷ ts)

-- an open correction that hands out points drawn afresh from the filter of C9
abbrev drew : List Told → Bool
drew [] = false
drew (t ∷ ts) = t.reply.given are (int 2 ∷ int 4 ∷ int 0 ∷ [])

pub record Computed : Type 0 where
  -- the leftovers of the two differ: points, weights, and scratch, what a stepped call keeps among it
  pub first_left : (leftovers (at_first binary64).track are (int 0 ∷ int 0 ∷ int 0 ∷ int 0 ∷ int 0 ∷ [])) ≡ true
  pub will_left : (leftovers (at_will binary64).track are (int 3 ∷ int 7 ∷ int 6 ∷ int 7 ∷ int 9 ∷ [])) ≡ true
  -- what a run tells is not constant: two predictions on one filter that end at different x
  pub ends_at_2 : (last_x (told binary64 (at_will binary64) (predicted (int 2) (int 4) (int 0))) are (int 2 ∷ [])) ≡ true
  pub ends_at_3 : (last_x (told binary64 (at_will binary64) (predicted (int 3) (int 5) (int 1))) are (int 3 ∷ [])) ≡ true
  -- calls lead to filters that aren't stale, and to such with a correction open
  pub in_use : (ran_to binary64 (at_first binary64) (predicted (int 2) (int 4) (int 0))).track.stale ≡ false
  pub still_open : is_correcting (ran_to binary64 (at_first binary64) (predicted (int 2) (int 4) (int 0) ++ (setting (open_correction three) ∷ []))).track.stage ≡ true
  -- a reading of the stale mark is taken
  pub read_taken : (step binary64 (at_first binary64) (reading read_stale)).reply.refusal.number ≡ 0
  -- the table fails for constant numbers at C9, for a filter handed back untouched at C9, and for a redraw at the first correction only at C11 and again at the next draw
  pub constant_fails : take 2 (failing (table_by constant)) ≡ "C9 open" ∷ "C9 close" ∷ []
  pub untouched_fails : take 1 (failing (table_by untouched)) ≡ "C9 close" ∷ []
  pub first_only_fails : failing (table_by first_only) ≡ "C11 open" ∷ "drawn afresh once more" ∷ []
  -- with the points that the last hands out observed unchanged, x is 2.8125 where C11 has 2.75
  pub first_only_x : (last_x (told_by first_only (at_first binary64) (predicted (int 2) (int 4) (int 0) ++ (corrected (int 3) ++ corrected (frac 17 4)))) are (frac 45 16 ∷ [])) ≡ true
  -- it draws afresh on the first of the two alike filters and not on the second
  pub first_drew : drew (told_by first_only (at_first binary64) (corrected (int 3))) ≡ true
  pub will_drew : drew (told_by first_only (at_will binary64) (corrected (int 3))) ≡ false

pub computed : Computed
unfolding half_turn wrap_step brought ◌is◌ ◌are◌ same_bytes of_int to_bits add sub mul rem div neg lt le size odd all_finite above_zero zeros front root_of rooted root_units near_root floor_root total_of places_of built_of row_of rows_of worked run rows_from column_of columns_from unit_at lambda_of scale_of w0m_of w0c_of wi_of weights_pass point_at in_range guarded searched searched_from step new_of tells told ran_to told_by
computed = record {
  first_left = refl;
  will_left = refl;
  ends_at_2 = refl;
  ends_at_3 = refl;
  in_use = refl;
  still_open = refl;
  read_taken = refl;
  constant_fails = refl;
  untouched_fails = refl;
  first_only_fails = refl;
  first_only_x = refl;
  first_drew = refl;
  will_drew = refl;
}

-- ---- what stops the useless builds

-- the table, which `computed` says they fail, is Cases' own
told_by_right : (s : Filter) (cs : List Call) → told_by right s cs ≡ told binary64 s cs
unfolding told_by told
told_by_right s [] = refl
told_by_right s (c ∷ cs) = ap (λ (ts : List Told). tells (step binary64 s c) ∷ ts) (told_by_right (step binary64 s c).filter cs)

pub table_right : table_by right ≡ call_cases binary64
table_right = ap (against story) (told_by_right (at_first binary64) (map (λ e. e.1.0) story))

-- A build that refuses everything breaks "exactly when": whatever number it gives, it gives it where nothing is due.
pub refusing_stopped : (r : Refusal) → ExactlyWhen (refusing r) → ⊥
refusing_stopped r e =
    let c = reading read_stale in
    let z = (exactly binary64 (at_first binary64) c r).1 ((e (at_first binary64) c r).0 refl) in
    omega (arith, number_above r, number_of z, computed.read_taken)

-- One that redraws at the first correction only breaks demand 3: on two alike filters it hands out different points.
pub first_only_stopped : NothingLeftOver first_only → ⊥
first_only_stopped e = two_ways computed.first_drew (ap drew (e (at_first binary64) (at_will binary64) alike (corrected (int 3))) ∙ computed.will_drew)

-- The right build keeps both.
pub right_exactly : ExactlyWhen right
right_exactly s c r = exactly binary64 s c r

pub right_left_over : NothingLeftOver right
right_left_over s t a cs = told_by_right s cs ∙ nothing_left_over binary64 s t a cs ∙ sym (told_by_right t cs)

three_is_refused : ◌≡◌ {A = ℕ} 3 0 → ⊥
three_is_refused e = omega arith

-- ---- calls struck out: an open with a setting that is refused and its abandon, and then an abandon that is refused; a reading stays
pub struck :
    Struck binary64 (at_first binary64) (setting (open_prediction three) ∷ setting (set_x three) ∷ abandon ∷ abandon ∷ reading read_stale ∷ []) (reading read_stale ∷ [])
unfolding of_int add sub mul rem div neg lt le size odd all_finite above_zero zeros front root_of rooted root_units near_root floor_root total_of places_of row_of rows_of worked run rows_from column_of columns_from lambda_of scale_of w0m_of w0c_of wi_of weights_pass point_at in_range guarded searched searched_from step new_of ran_to
struck = opening_struck (setting (open_prediction three)) (setting (set_x three) ∷ []) refl (refl, refl) (refused_struck three_is_refused (call_kept none_left))
