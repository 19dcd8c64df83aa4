-- THE TABLE OF CASES: document 01's numbers to check by hand, C1 to C12, and a run each for document 02's A1 (the flat close), A3 (settings mark stale), A4 (a pair on one sheet), A5 (where the bad number is), A6 (where the width shows), A7 (one point at a time), A8 (records) and A9 (laws of the wrap); each a name and a test that antt computes. At f64, and at f32 all but what is of the flat close, of a pair, stepped or of records. Definitions only.
use Rattle.std.specs.Prelude.{ℕ, ◌+◌, ◌-◌, Bool, true, false, ◌&&◌, List, [], ◌∷◌, ◌++◌, map, length, take, drop, get_or, set, replicate, eqb, Float}
use Prim.Native.String.{String}
use Rattle.std.specs.Bool.{beq}
use Rattle.std.specs.Float.{nan, inf, Format, binary32, binary64}
use Rattle.std.specs.Float.Ieee.{emax, of_bits, neg}
use Rattle.floats.specs.declared.Verdict.{Verdict}
use Rattle.floats.specs.declared.Refusal.TheVariants.{Pivot as PIVOT}
use Rattle.floats.specs.Refusal.{placeless, taken, Outcome, refused, accepted, refusal, or}
use Rattle.floats.specs.Numbers.{zeros}
use Rattle.floats.specs.Fronts.{front}
use Rattle.root.specs.Answer.{root_outcome}
use Rattle.angles.specs.Wrap.{wrap_of}
use Rattle.angles.specs.Kinds.{plain, kind_of}
use Rattle.angles.specs.Kinds.{Kind}
use Rattle.angles.specs.declared.Kind.TheVariants.{Plain, Turn}
use Rattle.matrix.specs.Results.{Result, numbers, pivot, rooting, worked, results}
use Rattle.matrix.specs.Sums.{dot_of, plus_of, minus_of}
use Rattle.matrix.specs.Factor.{factor_of}
use Rattle.sigma.specs.Weights.{Params}
use Rattle.sigma.specs.Weights.{lambda_of, scale_of, w0m_of, w0c_of, wi_of, weights_of}
use Rattle.sigma.specs.Mean.{mean_of}
use Rattle.correction.specs.Correct.{Head, given, weighted_head}
use Rattle.filter.specs.Types.{Filter}
use Rattle.filter.specs.Calls.{Call, writing, setting, stepping, closing, closing_stepped, abandon, reading, set_x, set_p, set_q, set_params, set_kind, open_prediction, open_correction, open_prediction_stepped, open_correction_stepped, ask, image_prediction, image_correction, close_prediction, close_correction, close_correction_flat, close_prediction_stepped, close_correction_stepped, close_correction_flat_stepped, read_q, read_points, read_stale, save, values_of, halves}
use Rattle.filter.specs.Records.{bytes_of}
use Rattle.filter.specs.New.{new_answer}
use Rattle.filter.specs.Load.{load_answer}
use Rattle.filter.specs.Point.{point_refusal}
use Rattle.script.specs.Text.{same_bytes}
use Rattle.pairs.specs.declared.Pair.{Pair}
use Rattle.pairs.specs.declared.Side.TheVariants.{First, Second}
use Rattle.pairs.specs.NewPair.{new_pair_answer}
use Rattle.demands.specs.Listed.{gain}
use Rattle.demands.specs.Runs.{Told, told}
use Rattle.demands.specs.PairRuns.{SideCall, by, pair_told}
use Rattle.demands.specs.Written.{int, minus, frac, two_to, two_to_minus, ◌is◌, ◌are◌}

-- ---- parameters

abbrev pub params : Float → Float → Float → Params
params a b k = record { alpha = a; beta = b; kappa = k }

abbrev pub c1 : Params
c1 = params (int 1) (int 0) (int 0)

abbrev pub c2 : Params
c2 = params (int 1) (int 2) (int 1)

abbrev pub c4 : Params
c4 = params (int 1) (int 0) (minus 1)

-- a number at a place
abbrev pub says : Verdict → ℕ → ℕ → Bool
says v number place = eqb v.number number && eqb v.place place

-- ---- leaves

-- an outcome that is accepted, with this value
abbrev pub accepts : Outcome Float → Float → Bool
accepts (refused r) v = false
accepts (accepted u) v = u is v

abbrev pub root_is : Format → Float → Float → Bool
root_is f x r = accepts (root_outcome f x) r

-- the wrap of d by 180
abbrev pub wrap_is : Format → Float → Float → Bool
wrap_is f d w = accepts (wrap_of f d (int 180)) w

-- the wrap of d by h, accepted, is w
abbrev pub wrap_by : Format → Float → Float → Float → Bool
wrap_by f h d w = accepts (wrap_of f d h) w

-- that of d by h is refused by a number at place 0
abbrev pub wrap_refused : Format → Float → Float → ℕ → Bool
wrap_refused f h d number = says (refusal (wrap_of f d h)) number 0

-- rows of two
abbrev pub rows : Float → Float → Float → Float → List Float
rows a b c d = front 4 (a ∷ b ∷ c ∷ d ∷ []) (zeros 64)

-- the number that a listed result checks, where it is one
abbrev pub checked : Result → Float
checked (numbers v) = get_or v 0 nan
checked (pivot r x) = x
checked (rooting x) = x

-- what C10's correction starts from
abbrev pub c10 : Format → Head
c10 f =
    weighted_head f
    (given 1 1 (int 2 ∷ []) (int 5 ∷ []) (int 2 ∷ int 4 ∷ int 0 ∷ []) (int 2 ∷ int 4 ∷ int 0 ∷ []) (w0m_of f 1 c1) (weights_of f 1 c1) (int 3 ∷ []) (int 12 ∷ []) (plain ∷ []) (plain ∷ []))

-- ---- C9 to C12 through the calls, one run: a state of 2 with P = 4, Q = 1, parameters C1

abbrev pub at_first : Format → Filter
at_first f = (new_answer f 1 (int 2 ∷ []) (int 4 ∷ []) (int 1 ∷ []) c1).filter

-- a lent buffer of three
abbrev pub three : List Float
three = nan ∷ nan ∷ nan ∷ []

-- R, z and the observed points, all kinds plain; and with R = 12
abbrev pub measuring_by : Float → Float → List Float → Call
measuring_by r z observed = closing (close_correction 1 (z ∷ []) (r ∷ []) (replicate 4 plain) observed)

abbrev pub measuring : Float → List Float → Call
measuring = measuring_by (int 12)

-- what a call should tell: the number, at place 0, the numbers given, and x, P and the stale mark after it
abbrev pub telling : ℕ → List Float → Float → Float → Bool → Told
telling number given x p stale = record { reply = record { refusal = placeless number; given = given; stale = true; bytes = [] }; x = x ∷ []; p = p ∷ []; stale = stale }

-- and a reading of the stale mark
abbrev pub marking : Float → Float → Bool → Told
marking x p stale = record { reply = record { refusal = taken; given = []; stale = stale; bytes = [] }; x = x ∷ []; p = p ∷ []; stale = stale }

abbrev pub story : List (String × (Call × Told))
story =
    ("C9 open", (setting (open_prediction three), telling 0 (int 2 ∷ int 4 ∷ int 0 ∷ []) (int 2) (int 4) true))
    ∷ ("C9 close", (closing (close_prediction (int 2 ∷ int 4 ∷ int 0 ∷ [])), telling 0 [] (int 2) (int 5) false))
    ∷ ("C9 points installed", (reading (read_points three), telling 0 (int 2 ∷ int 4 ∷ int 0 ∷ []) (int 2) (int 5) false))
    ∷ ("C9 not stale", (reading read_stale, marking (int 2) (int 5) false))
    ∷ ("C10 open", (setting (open_correction three), telling 0 (int 2 ∷ int 4 ∷ int 0 ∷ []) (int 2) (int 5) false))
    ∷ ("C10 close", (measuring (int 3) (int 2 ∷ int 4 ∷ int 0 ∷ []), telling 0 [] (frac 9 4) (int 4) true))
    ∷ ("C10 stale", (reading read_stale, marking (frac 9 4) (int 4) true))
    ∷ ("C10 points not read", (reading (read_points three), telling 4 [] (frac 9 4) (int 4) true))
    ∷ ("C11 open", (setting (open_correction three), telling 0 (frac 9 4 ∷ frac 17 4 ∷ frac 1 4 ∷ []) (frac 9 4) (int 4) true))
    ∷ ("C11 close", (measuring (frac 17 4) (frac 9 4 ∷ frac 17 4 ∷ frac 1 4 ∷ []), telling 0 [] (frac 11 4) (int 3) true))
    ∷ ("then x = 3", (setting (set_x (int 3 ∷ [])), telling 0 [] (int 3) (int 3) true))
    ∷ ("and P = 4", (setting (set_p (int 4 ∷ [])), telling 0 [] (int 3) (int 4) true))
    ∷ ("drawn afresh once more", (setting (open_correction three), telling 0 (int 3 ∷ int 5 ∷ int 1 ∷ []) (int 3) (int 4) true))
    ∷ ("abandoned", (abandon, telling 0 [] (int 3) (int 4) true))
    ∷ ("C12 a turn", (writing (set_kind 0 (Turn (int 180))), telling 0 [] (int 3) (int 4) true))
    ∷ ("C12 open", (setting (open_prediction three), telling 0 (int 3 ∷ int 5 ∷ int 1 ∷ []) (int 3) (int 4) true))
    ∷ ("C12 close", (closing (close_prediction (int 179 ∷ minus 171 ∷ int 169 ∷ [])), telling 0 [] (int 179) (int 101) false))
    ∷ []

-- A1 through the calls, on the same filter, by numbers that part from the weighted close's: propagated 5, 4, 0 the points average to 3 and x is 2. Observed 2, 5, −1 average to 2;
-- S = (0·0 + 3·3 + 3·3)/3 + 10 = 16, C = (2·0 + 1·3 + 3·3)/3 = 4, K = 4/16, y = 6 − 2, so x = 2 + 1 and P = 5 − 1. Then a turn: 55 before 10, and 10
abbrev pub measuring_flat : Float → Call
measuring_flat z = closing (close_correction_flat 1 (z ∷ []) (int 10 ∷ []) (int 2 ∷ int 5 ∷ minus 1 ∷ []))

abbrev pub flat_story : List (String × (Call × Told))
flat_story =
    ("A1 prediction opened", (setting (open_prediction three), telling 0 (int 2 ∷ int 4 ∷ int 0 ∷ []) (int 2) (int 4) true))
    ∷ ("A1 prediction closed", (closing (close_prediction (int 5 ∷ int 4 ∷ int 0 ∷ [])), telling 0 [] (int 2) (int 5) false))
    ∷ ("A1 nothing open", (measuring_flat (int 6), telling 3 [] (int 2) (int 5) false))
    ∷ ("A1 open", (setting (open_correction three), telling 0 (int 5 ∷ int 4 ∷ int 0 ∷ []) (int 2) (int 5) false))
    ∷ ("A1 close", (measuring_flat (int 6), telling 0 [] (int 3) (int 4) true))
    ∷ ("A1 stale", (reading read_stale, marking (int 3) (int 4) true))
    ∷ ("A1 a turn", (writing (set_kind 0 (Turn (int 180))), telling 0 [] (int 3) (int 4) true))
    ∷ ("A1 drawn afresh", (setting (open_correction three), telling 0 (int 3 ∷ int 5 ∷ int 1 ∷ []) (int 3) (int 4) true))
    ∷ ("A1 a number before a turn", (measuring_flat nan, telling 55 [] (int 3) (int 4) true))
    ∷ ("A1 turned away", (measuring_flat (int 6), telling 10 [] (int 3) (int 4) true))
    ∷ ("A1 abandoned", (abandon, telling 0 [] (int 3) (int 4) true))
    ∷ []

-- A7 through the calls, on the same filter: C9 to C11 and A1's run one point at a time, with the same numbers. An image is refused by 3 while its point hasn't been asked for, by 54 where it isn't finite; another m than the first image's is 1; and neither way takes the other's close
abbrev pub asking : Call
asking = stepping (ask (nan ∷ []))

abbrev pub imaging : Float → Call
imaging v = stepping (image_prediction (v ∷ []))

abbrev pub observing : Float → Call
observing v = stepping (image_correction 1 (v ∷ []))

abbrev pub measuring_stepped : ℕ → Float → Call
measuring_stepped m z = closing_stepped (close_correction_stepped m (z ∷ []) (int 12 ∷ []) (replicate 4 plain))

abbrev pub stepped_story : List (String × (Call × Told))
stepped_story =
    ("A7 nothing open", (asking, telling 3 [] (int 2) (int 4) true))
    ∷ ("A7 C9 open", (setting open_prediction_stepped, telling 0 [] (int 2) (int 4) true))
    ∷ ("A7 not asked for", (imaging (int 2), telling 3 [] (int 2) (int 4) true))
    ∷ ("A7 C9 point 0", (asking, telling 0 (int 2 ∷ []) (int 2) (int 4) true))
    ∷ ("A7 point 0 again", (asking, telling 0 (int 2 ∷ []) (int 2) (int 4) true))
    ∷ ("A7 not finite", (imaging nan, telling 54 [] (int 2) (int 4) true))
    ∷ ("A7 the other sort", (observing (int 2), telling 3 [] (int 2) (int 4) true))
    ∷ ("A7 C9 image 0", (imaging (int 2), telling 0 [] (int 2) (int 4) true))
    ∷ ("A7 the next not asked for", (imaging (int 4), telling 3 [] (int 2) (int 4) true))
    ∷ ("A7 C9 point 1", (asking, telling 0 (int 4 ∷ []) (int 2) (int 4) true))
    ∷ ("A7 C9 image 1", (imaging (int 4), telling 0 [] (int 2) (int 4) true))
    ∷ ("A7 early", (closing_stepped close_prediction_stepped, telling 3 [] (int 2) (int 4) true))
    ∷ ("A7 C9 point 2", (asking, telling 0 (int 0 ∷ []) (int 2) (int 4) true))
    ∷ ("A7 C9 image 2", (imaging (int 0), telling 0 [] (int 2) (int 4) true))
    ∷ ("A7 after the last", (asking, telling 3 [] (int 2) (int 4) true))
    ∷ ("A7 mixed", (closing (close_prediction (int 2 ∷ int 4 ∷ int 0 ∷ [])), telling 3 [] (int 2) (int 4) true))
    ∷ ("A7 C9 close", (closing_stepped close_prediction_stepped, telling 0 [] (int 2) (int 5) false))
    ∷ ("A7 C9 points installed", (reading (read_points three), telling 0 (int 2 ∷ int 4 ∷ int 0 ∷ []) (int 2) (int 5) false))
    ∷ ("A7 C10 open", (setting open_correction_stepped, telling 0 [] (int 2) (int 5) false))
    ∷ ("A7 C10 point 0", (asking, telling 0 (int 2 ∷ []) (int 2) (int 5) false))
    ∷ ("A7 C10 image 0", (observing (int 2), telling 0 [] (int 2) (int 5) false))
    ∷ ("A7 C10 point 1", (asking, telling 0 (int 4 ∷ []) (int 2) (int 5) false))
    ∷ ("A7 another m", (stepping (image_correction 2 (int 4 ∷ int 4 ∷ [])), telling 1 [] (int 2) (int 5) false))
    ∷ ("A7 C10 image 1", (observing (int 4), telling 0 [] (int 2) (int 5) false))
    ∷ ("A7 C10 point 2", (asking, telling 0 (int 0 ∷ []) (int 2) (int 5) false))
    ∷ ("A7 C10 image 2", (observing (int 0), telling 0 [] (int 2) (int 5) false))
    ∷ ("A7 a close of another m", (measuring_stepped 2 (int 3), telling 1 [] (int 2) (int 5) false))
    ∷ ("A7 C10 close", (measuring_stepped 1 (int 3), telling 0 [] (frac 9 4) (int 4) true))
    ∷ ("A7 opened and asked", (setting open_correction_stepped, telling 0 [] (frac 9 4) (int 4) true))
    ∷ ("A7 C11 point 0", (asking, telling 0 (frac 9 4 ∷ []) (frac 9 4) (int 4) true))
    ∷ ("A7 abandoned", (abandon, telling 0 [] (frac 9 4) (int 4) true))
    ∷ ("A7 C11 open", (setting open_correction_stepped, telling 0 [] (frac 9 4) (int 4) true))
    ∷ ("A7 nothing is left of it", (observing (int 2), telling 3 [] (frac 9 4) (int 4) true))
    ∷ ("A7 C11 point 0 again", (asking, telling 0 (frac 9 4 ∷ []) (frac 9 4) (int 4) true))
    ∷ ("A7 C11 image 0", (observing (frac 9 4), telling 0 [] (frac 9 4) (int 4) true))
    ∷ ("A7 C11 point 1", (asking, telling 0 (frac 17 4 ∷ []) (frac 9 4) (int 4) true))
    ∷ ("A7 C11 image 1", (observing (frac 17 4), telling 0 [] (frac 9 4) (int 4) true))
    ∷ ("A7 C11 point 2", (asking, telling 0 (frac 1 4 ∷ []) (frac 9 4) (int 4) true))
    ∷ ("A7 C11 image 2", (observing (frac 1 4), telling 0 [] (frac 9 4) (int 4) true))
    ∷ ("A7 C11 close", (measuring_stepped 1 (frac 17 4), telling 0 [] (frac 11 4) (int 3) true))
    ∷ []

abbrev pub measuring_flat_stepped : Call
measuring_flat_stepped = closing_stepped (close_correction_flat_stepped 1 (int 6 ∷ []) (int 10 ∷ []))

abbrev pub stepped_flat_story : List (String × (Call × Told))
stepped_flat_story =
    ("A7 A1 prediction opened", (setting (open_prediction three), telling 0 (int 2 ∷ int 4 ∷ int 0 ∷ []) (int 2) (int 4) true))
    ∷ ("A7 a point of a whole list", (asking, telling 3 [] (int 2) (int 4) true))
    ∷ ("A7 mixed the other way", (closing_stepped close_prediction_stepped, telling 3 [] (int 2) (int 4) true))
    ∷ ("A7 A1 prediction closed", (closing (close_prediction (int 5 ∷ int 4 ∷ int 0 ∷ [])), telling 0 [] (int 2) (int 5) false))
    ∷ ("A7 A1 open", (setting open_correction_stepped, telling 0 [] (int 2) (int 5) false))
    ∷ ("A7 A1 point 0", (asking, telling 0 (int 5 ∷ []) (int 2) (int 5) false))
    ∷ ("A7 A1 image 0", (observing (int 2), telling 0 [] (int 2) (int 5) false))
    ∷ ("A7 A1 point 1", (asking, telling 0 (int 4 ∷ []) (int 2) (int 5) false))
    ∷ ("A7 A1 image 1", (observing (int 5), telling 0 [] (int 2) (int 5) false))
    ∷ ("A7 A1 point 2", (asking, telling 0 (int 0 ∷ []) (int 2) (int 5) false))
    ∷ ("A7 A1 image 2", (observing (minus 1), telling 0 [] (int 2) (int 5) false))
    ∷ ("A7 A1 close", (measuring_flat_stepped, telling 0 [] (int 3) (int 4) true))
    ∷ ("A7 A1 a turn", (writing (set_kind 0 (Turn (int 180))), telling 0 [] (int 3) (int 4) true))
    ∷ ("A7 A1 open again", (setting open_correction_stepped, telling 0 [] (int 3) (int 4) true))
    ∷ ("A7 A1 drawn afresh", (asking, telling 0 (int 3 ∷ []) (int 3) (int 4) true))
    ∷ ("A7 A1 image 0 with a turn", (observing (int 2), telling 0 [] (int 3) (int 4) true))
    ∷ ("A7 A1 point 1 again", (asking, telling 0 (int 5 ∷ []) (int 3) (int 4) true))
    ∷ ("A7 A1 image 1 again", (observing (int 5), telling 0 [] (int 3) (int 4) true))
    ∷ ("A7 A1 point 2 again", (asking, telling 0 (int 1 ∷ []) (int 3) (int 4) true))
    ∷ ("A7 A1 image 2 again", (observing (minus 1), telling 0 [] (int 3) (int 4) true))
    ∷ ("A7 A1 turned away", (measuring_flat_stepped, telling 10 [] (int 3) (int 4) true))
    ∷ []

-- A3 through the calls, on the same filter. Propagated 2, 11/4, 5/4 the points have the mean 2, and P = 9/16 + Q. The same x set again marks stale, so the next open draws afresh, by the root 5/4 of P. After another such prediction neither Q marks nor a setting refused by 6, and the points stand.
-- Then alpha = 2, so that N = 4, w0m = 3/4, w0c = −9/4 and wi = 1/8: points 2, 2 + 2·5/4, 2 − 2·5/4. Observed 2, 6, 2 have the mean 2 + 4/8; S = −9/4·1/4 + (49/4 + 1/4)/8 + 3 = 4, C = (5/2·7/2 + 5/2·1/2)/8 = 5/4, K = 5/16, y = 13/2 − 5/2, so x = 2 + 5/4 and P = 25/16 − 25/64.
-- (By the old points with the old weights 0, 1/2, 1/2 and the new w0m, as document 01 had it, x would be 89/37.)
abbrev pub setting_story : List (String × (Call × Told))
setting_story =
    ("A3 prediction opened", (setting (open_prediction three), telling 0 (int 2 ∷ int 4 ∷ int 0 ∷ []) (int 2) (int 4) true))
    ∷ ("A3 prediction closed", (closing (close_prediction (int 2 ∷ frac 11 4 ∷ frac 5 4 ∷ [])), telling 0 [] (int 2) (frac 25 16) false))
    ∷ ("A3 the same x marks", (setting (set_x (int 2 ∷ [])), telling 0 [] (int 2) (frac 25 16) true))
    ∷ ("A3 drawn afresh", (setting (open_correction three), telling 0 (int 2 ∷ frac 13 4 ∷ frac 3 4 ∷ []) (int 2) (frac 25 16) true))
    ∷ ("A3 abandoned", (abandon, telling 0 [] (int 2) (frac 25 16) true))
    ∷ ("A3 predicted again", (setting (open_prediction three), telling 0 (int 2 ∷ frac 13 4 ∷ frac 3 4 ∷ []) (int 2) (frac 25 16) true))
    ∷ ("A3 not stale", (closing (close_prediction (int 2 ∷ frac 11 4 ∷ frac 5 4 ∷ [])), telling 0 [] (int 2) (frac 25 16) false))
    ∷ ("A3 Q marks not", (writing (set_q (int 9 ∷ [])), telling 0 [] (int 2) (frac 25 16) false))
    ∷ ("A3 Q is set", (reading (read_q three), telling 0 (int 9 ∷ []) (int 2) (frac 25 16) false))
    ∷ ("A3 a refusal marks not", (writing (set_params c4), telling 6 [] (int 2) (frac 25 16) false))
    ∷ ("A3 points stand", (reading (read_points three), telling 0 (int 2 ∷ frac 11 4 ∷ frac 5 4 ∷ []) (int 2) (frac 25 16) false))
    ∷ ("A3 alpha marks", (writing (set_params (params (int 2) (int 0) (int 0))), telling 0 [] (int 2) (frac 25 16) true))
    ∷ ("A3 points not read", (reading (read_points three), telling 4 [] (int 2) (frac 25 16) true))
    ∷ ("A3 drawn by the new alpha", (setting (open_correction three), telling 0 (int 2 ∷ frac 9 2 ∷ neg (frac 1 2) ∷ []) (int 2) (frac 25 16) true))
    ∷ ("A3 corrected by the new alpha", (measuring_by (int 3) (frac 13 2) (int 2 ∷ int 6 ∷ int 2 ∷ []), telling 0 [] (frac 13 4) (frac 75 64) true))
    ∷ []

-- A4 through the calls: states of 2 and 3 with P = 4 and 16, on one sheet with Q = 1 and parameters C1. While a side has a call open a sheet change through either is refused by 3, before 1 and 56, and the other side's own calls are taken. Propagated 2, 4, 0 the first has P = 4 + 1,
-- and 5, 9, 1 the second 16 + 1. Q set through the second marks neither and is read by the first. Parameters refused by 6 mark neither; alpha = 2 through the first, so that N = 4, marks the second, which then draws 5, 5 ± 2·4 from P = 16. A turn through the second marks the first, and by it the first's prediction is C12's, P = 100 + 9.
abbrev pub both : Pair
both = (new_pair_answer binary64 1 (int 2 ∷ []) (int 4 ∷ []) (int 3 ∷ []) (int 16 ∷ []) (int 1 ∷ []) c1).pair

abbrev pub pair_story : List (String × (SideCall × Told))
pair_story =
    ("A4 the first opens", (by First (setting (open_prediction three)), telling 0 (int 2 ∷ int 4 ∷ int 0 ∷ []) (int 2) (int 4) true))
    ∷ ("A4 the partner open", (by Second (writing (set_q (int 9 ∷ []))), telling 3 [] (int 3) (int 16) true))
    ∷ ("A4 before 1 and 56", (by Second (writing (set_kind 7 (Turn nan))), telling 3 [] (int 3) (int 16) true))
    ∷ ("A4 itself open", (by First (writing (set_params c1)), telling 3 [] (int 2) (int 4) true))
    ∷ ("A4 its own x", (by Second (setting (set_x (int 5 ∷ []))), telling 0 [] (int 5) (int 16) true))
    ∷ ("A4 both open", (by Second (setting (open_prediction three)), telling 0 (int 5 ∷ int 9 ∷ int 1 ∷ []) (int 5) (int 16) true))
    ∷ ("A4 the first closes", (by First (closing (close_prediction (int 2 ∷ int 4 ∷ int 0 ∷ []))), telling 0 [] (int 2) (int 5) false))
    ∷ ("A4 the second still open", (by First (writing (set_q (int 9 ∷ []))), telling 3 [] (int 2) (int 5) false))
    ∷ ("A4 the second closes", (by Second (closing (close_prediction (int 5 ∷ int 9 ∷ int 1 ∷ []))), telling 0 [] (int 5) (int 17) false))
    ∷ ("A4 Q through the second", (by Second (writing (set_q (int 9 ∷ []))), telling 0 [] (int 5) (int 17) false))
    ∷ ("A4 Q read by the first", (by First (reading (read_q three)), telling 0 (int 9 ∷ []) (int 2) (int 5) false))
    ∷ ("A4 a refusal marks nobody", (by First (writing (set_params c4)), telling 6 [] (int 2) (int 5) false))
    ∷ ("A4 not the partner", (by Second (reading read_stale), marking (int 5) (int 17) false))
    ∷ ("A4 a correction open", (by Second (setting (open_correction three)), telling 0 (int 5 ∷ int 9 ∷ int 1 ∷ []) (int 5) (int 17) false))
    ∷ ("A4 the other one too", (by First (setting (open_correction three)), telling 0 (int 2 ∷ int 4 ∷ int 0 ∷ []) (int 2) (int 5) false))
    ∷ ("A4 both corrections bar", (by First (writing (set_params c1)), telling 3 [] (int 2) (int 5) false))
    ∷ ("A4 corrected as C10", (by First (measuring (int 3) (int 2 ∷ int 4 ∷ int 0 ∷ [])), telling 0 [] (frac 9 4) (int 4) true))
    ∷ ("A4 given up", (by Second abandon, telling 0 [] (int 5) (int 17) false))
    ∷ ("A4 alpha through the first", (by First (writing (set_params (params (int 2) (int 0) (int 0)))), telling 0 [] (frac 9 4) (int 4) true))
    ∷ ("A4 it marks the second", (by Second (reading read_stale), marking (int 5) (int 17) true))
    ∷ ("A4 P of the second", (by Second (setting (set_p (int 16 ∷ []))), telling 0 [] (int 5) (int 16) true))
    ∷ ("A4 drawn by the new alpha", (by Second (setting (open_prediction three)), telling 0 (int 5 ∷ int 13 ∷ minus 3 ∷ []) (int 5) (int 16) true))
    ∷ ("A4 given up again", (by Second abandon, telling 0 [] (int 5) (int 16) true))
    ∷ ("A4 alpha 1 again", (by Second (writing (set_params c1)), telling 0 [] (int 5) (int 16) true))
    ∷ ("A4 the first predicts", (by First (setting (open_prediction three)), telling 0 (frac 9 4 ∷ frac 17 4 ∷ frac 1 4 ∷ []) (frac 9 4) (int 4) true))
    ∷ ("A4 and isn't stale", (by First (closing (close_prediction (int 2 ∷ int 4 ∷ int 0 ∷ []))), telling 0 [] (int 2) (int 13) false))
    ∷ ("A4 a turn through the second", (by Second (writing (set_kind 0 (Turn (int 180)))), telling 0 [] (int 5) (int 16) true))
    ∷ ("A4 it marks the first", (by First (reading read_stale), marking (int 2) (int 13) true))
    ∷ ("A4 P of the first", (by First (setting (set_p (int 4 ∷ []))), telling 0 [] (int 2) (int 4) true))
    ∷ ("A4 the first opens again", (by First (setting (open_prediction three)), telling 0 (int 2 ∷ int 4 ∷ int 0 ∷ []) (int 2) (int 4) true))
    ∷ ("A4 predicted by the turn", (by First (closing (close_prediction (int 179 ∷ minus 171 ∷ int 169 ∷ []))), telling 0 [] (int 179) (int 109) false))
    ∷ ("A4 the second as it was", (by Second (reading (read_points three)), telling 4 [] (int 5) (int 16) true))
    ∷ []

-- A5 through the calls, on two states: x = (1, 2), P = 4I, and parameters with kappa = 2, so that N = 4 and the points are x and 2·2 to either side. Numbers past the front of a slice aren't searched. Of (1 2, 2 1) the second pivot is 1 − 2·2, so an open gives 7 there; of zeros the first is bad, and so would the second be.
-- A close searches R, observed points, z and half-turns in this order; a plain kind keeps its place among the half-turns, and kinds from m up aren't read. Observed all 1, S is R.
abbrev pub kappa_two : Params
kappa_two = params (int 1) (int 0) (int 2)

abbrev pub two : Float → Float → List Float
two a b = a ∷ b ∷ []

abbrev pub four : Float → Float → Float → Float → List Float
four a b c d = a ∷ b ∷ c ∷ d ∷ []

abbrev pub two_states : Format → Filter
two_states f = (new_answer f 2 (two (int 1) (int 2)) (four (int 4) (int 0) (int 0) (int 4)) (four (int 1) (int 0) (int 0) (int 1)) kappa_two).filter

-- a lent buffer of ten, and the points that come
abbrev pub ten : List Float
ten = replicate 10 nan

abbrev pub drawn_ten : List Float
drawn_ten = int 1 ∷ int 2 ∷ int 5 ∷ int 2 ∷ int 1 ∷ int 6 ∷ minus 3 ∷ int 2 ∷ int 1 ∷ minus 2 ∷ []

-- k ones; and ten with an infinity at i and, where a place comes after it, a NaN there
abbrev pub ones : ℕ → List Float
ones k = replicate k (int 1)

abbrev pub bad_at : ℕ → List Float
bad_at i = set (set (ones 10) (i + 1) nan) i (inf true)

abbrev pub flawed : List Float
flawed = four (int 1) (int 2) (int 2) (int 1)

abbrev pub searching : List Float → List Float → List Float → List Kind → Call
searching r observed z kinds = closing (close_correction 2 z r kinds observed)

abbrev pub kinds_of : Kind → Kind → Kind → List Kind
kinds_of a b c = a ∷ b ∷ c ∷ plain ∷ []

-- what a call should tell, after which x is (1, 2), P is (d e, e d) and the filter is stale: the number at its place and the numbers given
abbrev pub placing : ℕ → ℕ → List Float → ℕ → ℕ → Told
placing number place given d e = record { reply = record { refusal = record { number = number; place = place }; given = given; stale = true; bytes = [] }; x = two (int 1) (int 2); p = four (int d) (int e) (int e) (int d); stale = true }

abbrev pub place_story : List (String × (Call × Told))
place_story =
    let bad : Kind = Turn nan in
    ("A5 a state", (setting (set_x (two (int 1) nan)), placing 51 1 [] 4 0))
    ∷ ("A5 the first of two", (setting (set_x (bad_at 0)), placing 51 0 [] 4 0))
    ∷ ("A5 a covariance", (setting (set_p (bad_at 1)), placing 52 1 [] 4 0))
    ∷ ("A5 a noise", (writing (set_q (bad_at 3)), placing 53 3 [] 4 0))
    ∷ ("A5 alpha", (writing (set_params (params (inf false) nan (int 2))), placing 56 0 [] 4 0))
    ∷ ("A5 kappa", (writing (set_params (params (int 1) (int 0) nan)), placing 56 2 [] 4 0))
    ∷ ("A5 a kind of the filter", (writing (set_kind 1 bad), placing 56 0 [] 4 0))
    ∷ ("A5 1 before it", (writing (set_kind 2 bad), placing 1 0 [] 4 0))
    ∷ ("A5 past the front", (setting (set_p (flawed ++ (nan ∷ []))), placing 0 0 [] 1 2))
    ∷ ("A5 a pivot of P", (setting (open_prediction ten), placing 7 1 [] 1 2))
    ∷ ("A5 the same by a correction", (setting (open_correction ten), placing 7 1 [] 1 2))
    ∷ ("A5 P of zeros", (setting (set_p (zeros 4)), placing 0 0 [] 0 0))
    ∷ ("A5 the first pivot", (setting (open_prediction ten), placing 7 0 [] 0 0))
    ∷ ("A5 P again", (setting (set_p (four (int 4) (int 0) (int 0) (int 4))), placing 0 0 [] 4 0))
    ∷ ("A5 a prediction", (setting (open_prediction ten), placing 0 0 drawn_ten 4 0))
    ∷ ("A5 a point", (closing (close_prediction (bad_at 7)), placing 54 7 [] 4 0))
    ∷ ("A5 given up", (abandon, placing 0 0 [] 4 0))
    ∷ ("A5 a correction", (setting (open_correction ten), placing 0 0 drawn_ten 4 0))
    ∷ ("A5 R first", (searching (bad_at 2) (bad_at 0) (bad_at 0) (kinds_of bad bad Plain), placing 53 2 [] 4 0))
    ∷ ("A5 points before z", (searching flawed (bad_at 4) (bad_at 0) (kinds_of bad bad Plain), placing 54 4 [] 4 0))
    ∷ ("A5 the first of z", (searching flawed (ones 10) (bad_at 0) (kinds_of bad bad Plain), placing 55 0 [] 4 0))
    ∷ ("A5 z before half-turns", (searching flawed (ones 10) (bad_at 1) (kinds_of bad bad Plain), placing 55 1 [] 4 0))
    ∷ ("A5 the first of two half-turns", (searching flawed (ones 10) (two (int 1) (int 1)) (kinds_of bad bad Plain), placing 56 0 [] 4 0))
    ∷ ("A5 a plain kind keeps its place", (searching flawed (ones 10) (two (int 1) (int 1)) (kinds_of Plain bad Plain), placing 56 1 [] 4 0))
    ∷ ("A5 half-turns before 6", (searching flawed (ones 10) (two (int 1) (int 1)) (kinds_of (Turn (int 0)) bad Plain), placing 56 1 [] 4 0))
    ∷ ("A5 of one measurement, no further", (closing (close_correction 1 (bad_at 1) (bad_at 1) (kinds_of bad bad Plain) (bad_at 5)), placing 56 0 [] 4 0))
    ∷ ("A5 of four, R to its end", (closing (close_correction 4 (bad_at 3) (set (ones 16) 15 nan) (kinds_of bad bad bad) (set (ones 20) 19 nan)), placing 53 15 [] 4 0))
    ∷ ("A5 of four, the points to their end", (closing (close_correction 4 (bad_at 3) (ones 16) (kinds_of bad bad bad) (set (ones 20) 19 nan)), placing 54 19 [] 4 0))
    ∷ ("A5 of four, z to its end", (closing (close_correction 4 (bad_at 3) (ones 16) (kinds_of bad bad bad) (ones 20)), placing 55 3 [] 4 0))
    ∷ ("A5 the last of four", (closing (close_correction 4 (ones 4) (ones 16) (plain ∷ plain ∷ Turn (int 0) ∷ Turn (inf false) ∷ []) (ones 20)), placing 56 3 [] 4 0))
    ∷ ("A5 6 tells no place", (searching flawed (ones 10) (two (int 1) (int 1)) (kinds_of Plain (Turn (int 0)) Plain), placing 6 0 [] 4 0))
    ∷ ("A5 a pivot of S", (searching flawed (ones 10) (two (int 1) (int 1)) (kinds_of Plain Plain bad), placing 8 1 [] 4 0))
    ∷ ("A5 the first pivot of S", (searching (zeros 4) (ones 10) (two (int 1) (int 1)) (kinds_of Plain Plain bad), placing 8 0 [] 4 0))
    ∷ []

-- A7 on the same filter: places in an image, slices that are too short, a refused first image, images given up. Observed all 1 the points move nothing, so that x and P stay; and S is R
abbrev pub asking_two : Call
asking_two = stepping (ask (two nan nan))

abbrev pub measuring_all : ℕ → List Float → Float → Call
measuring_all m z r = closing_stepped (close_correction_stepped m z (r ∷ []) (replicate 4 plain))

abbrev pub stepped_place_story : List (String × (Call × Told))
stepped_place_story =
    ("A7 two states", (setting open_prediction_stepped, placing 0 0 [] 4 0))
    ∷ ("A7 a short buffer", (asking, placing 2 0 [] 4 0))
    ∷ ("A7 that doesn't count", (stepping (image_prediction (two (int 1) (int 2))), placing 3 0 [] 4 0))
    ∷ ("A7 point 0 of five", (asking_two, placing 0 0 (two (int 1) (int 2)) 4 0))
    ∷ ("A7 a short image", (imaging (int 1), placing 2 0 [] 4 0))
    ∷ ("A7 image 0 of five", (stepping (image_prediction (two (int 1) (int 2))), placing 0 0 [] 4 0))
    ∷ ("A7 point 1 of five", (asking_two, placing 0 0 (two (int 5) (int 2)) 4 0))
    ∷ ("A7 a place in this image", (stepping (image_prediction (two (int 5) nan)), placing 54 1 [] 4 0))
    ∷ ("A7 image 1 of five", (stepping (image_prediction (two (int 5) (int 2))), placing 0 0 [] 4 0))
    ∷ ("A7 an open meanwhile", (setting (open_prediction ten), placing 3 0 [] 4 0))
    ∷ ("A7 given up with two images in", (abandon, placing 0 0 [] 4 0))
    ∷ ("A7 a correction", (setting open_correction_stepped, placing 0 0 [] 4 0))
    ∷ ("A7 its point isn't asked for", (observing (int 1), placing 3 0 [] 4 0))
    ∷ ("A7 from point 0 again", (asking_two, placing 0 0 (two (int 1) (int 2)) 4 0))
    ∷ ("A7 a refused first image", (stepping (image_correction 2 (two nan (int 1))), placing 54 0 [] 4 0))
    ∷ ("A7 names no m", (observing (int 1), placing 0 0 [] 4 0))
    ∷ ("A7 five points, 1", (asking_two, placing 0 0 (two (int 5) (int 2)) 4 0))
    ∷ ("A7 five images, 1", (observing (int 1), placing 0 0 [] 4 0))
    ∷ ("A7 five points, 2", (asking_two, placing 0 0 (two (int 1) (int 6)) 4 0))
    ∷ ("A7 five images, 2", (observing (int 1), placing 0 0 [] 4 0))
    ∷ ("A7 five points, 3", (asking_two, placing 0 0 (two (minus 3) (int 2)) 4 0))
    ∷ ("A7 five images, 3", (observing (int 1), placing 0 0 [] 4 0))
    ∷ ("A7 early, before a bad m", (measuring_all 9 (int 3 ∷ []) (int 1), placing 3 0 [] 4 0))
    ∷ ("A7 five points, 4", (asking_two, placing 0 0 (two (int 1) (minus 2)) 4 0))
    ∷ ("A7 five images, 4", (observing (int 1), placing 0 0 [] 4 0))
    ∷ ("A7 the other sort's close", (closing_stepped close_prediction_stepped, placing 3 0 [] 4 0))
    ∷ ("A7 another m before a short z", (measuring_all 2 [] (int 1), placing 1 0 [] 4 0))
    ∷ ("A7 a short z", (measuring_all 1 [] (int 1), placing 2 0 [] 4 0))
    ∷ ("A7 a bad z", (measuring_all 1 (nan ∷ []) (int 1), placing 55 0 [] 4 0))
    ∷ ("A7 S of zeros", (measuring_all 1 (int 3 ∷ []) (int 0), placing 8 0 [] 4 0))
    ∷ ("A7 closed after all", (measuring_all 1 (int 3 ∷ []) (int 1), placing 0 0 [] 4 0))
    ∷ []

-- and on the sides of a pair: a stepped call bars changes of the sheet, and each side has its own points, images and asked mark
abbrev pub stepped_sides_story : List (String × (SideCall × Told))
stepped_sides_story =
    ("A7 the first opens", (by First (setting open_prediction_stepped), telling 0 [] (int 2) (int 4) true))
    ∷ ("A7 the sheet is barred", (by Second (writing (set_q (int 9 ∷ []))), telling 3 [] (int 3) (int 16) true))
    ∷ ("A7 the second opens", (by Second (setting open_correction_stepped), telling 0 [] (int 3) (int 16) true))
    ∷ ("A7 the second's point", (by Second asking, telling 0 (int 3 ∷ []) (int 3) (int 16) true))
    ∷ ("A7 the first hasn't asked", (by First (imaging (int 2)), telling 3 [] (int 2) (int 4) true))
    ∷ ("A7 the second's image", (by Second (observing (int 3)), telling 0 [] (int 3) (int 16) true))
    ∷ ("A7 the first's point", (by First asking, telling 0 (int 2 ∷ []) (int 2) (int 4) true))
    ∷ ("A7 the first gives up", (by First abandon, telling 0 [] (int 2) (int 4) true))
    ∷ ("A7 the second goes on", (by Second asking, telling 0 (int 7 ∷ []) (int 3) (int 16) true))
    ∷ ("A7 and bars the sheet", (by First (writing (set_q (int 9 ∷ []))), telling 3 [] (int 2) (int 4) true))
    ∷ []

-- and, as the run goes on, by the flat close
abbrev pub flat_place_story : List (String × (Call × Told))
flat_place_story =
    ("A5 flat, R first", (closing (close_correction_flat 2 (bad_at 0) (bad_at 3) (bad_at 0)), placing 53 3 [] 4 0))
    ∷ ("A5 flat, points before z", (closing (close_correction_flat 2 (bad_at 0) flawed (bad_at 9)), placing 54 9 [] 4 0))
    ∷ ("A5 flat, a pivot of S", (closing (close_correction_flat 2 (two (int 1) (int 1)) flawed (ones 10)), placing 8 1 [] 4 0))
    ∷ ("A5 given up again", (abandon, placing 0 0 [] 4 0))
    ∷ ("A5 the second kind a turn", (writing (set_kind 1 (Turn (int 180))), placing 0 0 [] 4 0))
    ∷ ("A5 another correction", (setting (open_correction ten), placing 0 0 drawn_ten 4 0))
    ∷ ("A5 flat, z before 10", (closing (close_correction_flat 2 (bad_at 1) flawed (ones 10)), placing 55 1 [] 4 0))
    ∷ ("A5 10 tells no place", (closing (close_correction_flat 2 (two (int 1) (int 1)) flawed (ones 10)), placing 10 0 [] 4 0))
    ∷ []

-- the same on the sides of a pair: two such states on one sheet
abbrev pub both_of_two : Pair
both_of_two = let x = two (int 1) (int 2) in let p = four (int 4) (int 0) (int 0) (int 4) in (new_pair_answer binary64 2 x p x p (four (int 1) (int 0) (int 0) (int 1)) kappa_two).pair

abbrev pub sides_story : List (String × (SideCall × Told))
sides_story =
    ("A5 a state of the second", (by Second (setting (set_x (bad_at 1))), placing 51 1 [] 4 0))
    ∷ ("A5 a noise through the first", (by First (writing (set_q (bad_at 3))), placing 53 3 [] 4 0))
    ∷ ("A5 P of the second", (by Second (setting (set_p flawed)), placing 0 0 [] 1 2))
    ∷ ("A5 a pivot of the second", (by Second (setting (open_prediction ten)), placing 7 1 [] 1 2))
    ∷ ("A5 none of the first", (by First (setting (open_correction ten)), placing 0 0 drawn_ten 4 0))
    ∷ ("A5 a point of the first", (by First (searching flawed (bad_at 4) (bad_at 0) (kinds_of Plain Plain Plain)), placing 54 4 [] 4 0))
    ∷ []

-- a refused New, of two states or of a pair, has no states (`refused_new` in Demand1 and Pairs has all of it)
abbrev pub new_is : Format → List Float → List Float → List Float → Params → ℕ → ℕ → Bool
new_is f x p q par number place = let a = new_answer f 2 x p q par in says a.refusal number place && eqb a.filter.sheet.n 0

abbrev pub new_pair_is : ℕ → List Float → List Float → List Float → List Float → List Float → Params → ℕ → ℕ → Bool
new_pair_is n x₁ p₁ x₂ p₂ q par number place = let a = new_pair_answer binary64 n x₁ p₁ x₂ p₂ q par in says a.refusal number place && eqb a.pair.sheet.n 0

abbrev pub agrees : Told → Told → Bool
agrees t e =
    says t.reply.refusal e.reply.refusal.number e.reply.refusal.place
    && ((t.reply.given are e.reply.given) && (same_bytes t.reply.bytes e.reply.bytes && (beq t.reply.stale e.reply.stale && ((take (length e.x) t.x are e.x) && ((take (length e.p) t.p are e.p) && beq t.stale e.stale)))))

abbrev pub against : {A : Type 0} → List (String × (A × Told)) → List Told → List (String × Bool)
against [] ts = []
against (e ∷ es) [] = (e.0, false) ∷ against es []
against (e ∷ es) (t ∷ ts) = (e.0, agrees t e.1.1) ∷ against es ts

-- ---- what hangs on the format, written out for each

-- C5's small number is 2 ^ −(2k), and its root 2 ^ −k
abbrev pub small_root : Format → ℕ
small_root binary32 = 74
small_root binary64 = 537

-- the smallest number, and the root of it: at f32 that of 2 is among its digits
abbrev pub smallest : Format → Float
smallest binary32 = two_to_minus 149
smallest binary64 = two_to_minus 1074

abbrev pub root_of_smallest : Format → Float
root_of_smallest binary32 = of_bits binary32 0x1A35_04F3
root_of_smallest binary64 = two_to_minus 537

abbrev pub root_of_two : Format → Float
root_of_two binary32 = of_bits binary32 0x3FB5_04F3
root_of_two binary64 = of_bits binary64 0x3FF6_A09E_667F_3BCD

-- the wrap by 180 of 2 ^ 127 and of 2 ^ 1023: 2 ^ 12 leaves 1 by 45, so 8 * 2 ^ 124 leaves 8 * 16 by 360, and 8 * 2 ^ 1020 leaves 8
abbrev pub top_wrapped : Format → Float
top_wrapped binary32 = int 128
top_wrapped binary64 = int 8

-- 1 / 6, the weight of a point of three states
abbrev pub sixth : Format → Float
sixth binary32 = of_bits binary32 0x3E2A_AAAB
sixth binary64 = of_bits binary64 0x3FC5_5555_5555_5555

-- from here on not every whole number is there
abbrev pub last : Format → Float
last binary32 = two_to 24
last binary64 = two_to 53

-- the largest power of two, whose double is too large
abbrev pub largest : Format → Float
largest binary32 = two_to 127
largest binary64 = two_to 1023

-- an entry of a factor that is too large: the first pivot's root is 2 ^ −63, or 2 ^ −511
abbrev pub overflowing : Format → List Float
overflowing binary32 = rows (two_to_minus 126) (int 0) (two_to 70) (int 1)
overflowing binary64 = rows (two_to_minus 1022) (int 0) (two_to 600) (int 1)

-- the square of the root of 2, as a spread comes to it: the halves of two products that are rounded, down at f32 and up at f64
abbrev pub nearly_two : Format → Float
nearly_two binary32 = of_bits binary32 0x3FFF_FFFF
nearly_two binary64 = of_bits binary64 0x4000_0000_0000_0001

-- numbers that aren't exact, through the calls: a state of 0 with P = 2 and Q = 0 is drawn, and the points come back as they are
abbrev pub root_story : Format → List (String × (Call × Told))
root_story f =
    ("A6 drawn by the root of 2", (setting (open_prediction three), telling 0 (int 0 ∷ root_of_two f ∷ neg (root_of_two f) ∷ []) (int 0) (int 2) true))
    ∷ ("A6 and spread by it", (closing (close_prediction (int 0 ∷ root_of_two f ∷ neg (root_of_two f) ∷ [])), telling 0 [] (int 0) (nearly_two f) false))
    ∷ []

-- ---- THE TABLE

module _ (f : Format) where
  abbrev pub leaf_cases : List (String × Bool)
  leaf_cases =
      ("C1 lambda", lambda_of f 1 c1 is int 0)
      ∷ ("C1 w0m", w0m_of f 1 c1 is int 0)
      ∷ ("C1 w0c", w0c_of f 1 c1 is int 0)
      ∷ ("C1 wi", wi_of f 1 c1 is frac 1 2)
      ∷ ("C2 w0m", w0m_of f 1 c2 is frac 1 2)
      ∷ ("C2 w0c", w0c_of f 1 c2 is frac 5 2)
      ∷ ("C2 wi", wi_of f 1 c2 is frac 1 4)
      ∷ ("C3 w0m", w0m_of f 2 c1 is int 0)
      ∷ ("C3 w0c", w0c_of f 2 c1 is int 0)
      ∷ ("C3 wi", wi_of f 2 c1 is frac 1 4)
      ∷ ("C4 N", scale_of f 1 c4 is int 0)
      ∷ ("C4 refused", says (new_answer f 1 (int 2 ∷ []) (int 4 ∷ []) (int 1 ∷ []) c4).refusal 6 0)
      ∷ ("C5 root of 16", root_is f (int 16) (int 4))
      ∷ ("C5 root of 2^−1074, at f32 of 2^−148", root_is f (two_to_minus (small_root f + small_root f)) (two_to_minus (small_root f)))
      ∷ ("C5 root of 2, at f32 3FB504F3", root_is f (int 2) (root_of_two f))
      ∷ ("C6 350", wrap_is f (int 350) (minus 10))
      ∷ ("C6 190", wrap_is f (int 190) (minus 170))
      ∷ ("C6 180", wrap_is f (int 180) (int 180))
      ∷ ("C6 −180", wrap_is f (minus 180) (int 180))
      ∷ ("C6 540", wrap_is f (int 540) (int 180))
      ∷ ("C6 −350", wrap_is f (minus 350) (int 10))
      ∷ ("C7", take 4 (or [] (worked (factor_of f PIVOT (rows (int 4) (int 2) (int 2) (int 5)) 2))) are (int 2 ∷ int 0 ∷ int 1 ∷ int 2 ∷ []))
      ∷ ("C8 second pivot", checked (get_or (results (factor_of f PIVOT (rows (int 1) (int 2) (int 2) (int 1)) 2)) 2 (numbers [])) is minus 3)
      ∷ ("C8 refused", says (refusal (worked (factor_of f PIVOT (rows (int 1) (int 2) (int 2) (int 1)) 2))) 7 1)
      ∷ ("A5 a factor entry", says (refusal (worked (factor_of f PIVOT (overflowing f) 2))) 9 0)
      ∷ ("A5 point 5 of five", says (point_refusal f (ones 10) 2 5) 1 0)
      ∷ ("A5 point 4, whose numbers aren't judged", says (point_refusal f (bad_at 8) 2 4) 0 0)
      ∷ ("A5 root of −1", says (refusal (root_outcome f (minus 1))) 56 0)
      ∷ ("A5 root of an infinity", says (refusal (root_outcome f (inf false))) 56 0)
      ∷ ("A5 wrap of a NaN", says (refusal (wrap_of f nan (int 180))) 56 0)
      ∷ ("A5 wrap by an infinity", says (refusal (wrap_of f (int 1) (inf false))) 56 0)
      ∷ ("A5 wrap of a NaN by 0", says (refusal (wrap_of f nan (int 0))) 56 0)
      ∷ ("A5 wrap by 0", says (refusal (wrap_of f (int 1) (int 0))) 6 0)
      ∷ ("A5 a turn by a NaN", says (refusal (kind_of f (Turn nan))) 56 0)
      ∷ ("A5 a turn by an infinity", says (refusal (kind_of f (Turn (inf true)))) 56 0)
      ∷ ("A5 a turn by 0", says (refusal (kind_of f (Turn (int 0)))) 6 0)
      ∷ ("A6 root of the smallest number", root_is f (smallest f) (root_of_smallest f))
      ∷ ("A6 wrap by a number whose double is too large", says (refusal (wrap_of f (int 1) (largest f))) 6 0)
      ∷ ("A6 wi of three states", wi_of f 3 c1 is sixth f)
      ∷ ("A6 a sum, a tie rounded to even", plus_of f 1 (last f ∷ []) (int 1 ∷ []) are (last f ∷ zeros 63))
      ∷ ("A6 a difference, the same", minus_of f 1 (last f ∷ []) (frac 1 2 ∷ []) are (last f ∷ zeros 63))
      ∷ ("A6 a product, half the smallest number", dot_of f (smallest f ∷ []) 0 (frac 1 2 ∷ []) 0 1 is int 0)
      ∷ ("A9 540 by 180: 180, and that by 180", wrap_is f (int 540) (int 180) && wrap_is f (int 180) (int 180))
      ∷ ("A9 −540 by 180: 180 again, and not −180", wrap_is f (minus 540) (int 180))
      ∷ ("A9 350 by 180: −10, and −350: 10", wrap_is f (int 350) (minus 10) && wrap_is f (minus 350) (int 10))
      ∷ ("A9 360 by 180: +0, and −360: −0", wrap_is f (int 360) (int 0) && wrap_is f (minus 360) (minus 0))
      ∷ ("A9 700 by 360: −20, twice that of 350 by 180", wrap_by f (int 360) (int 700) (minus 20))
      ∷ ("A9 1 by 2^1022, at f32 2^126: 1; both doubled, 4h being too large: 6", wrap_by f (two_to (emax f - 1)) (int 1) (int 1) && wrap_refused f (two_to (emax f)) (int 2) 6)
      ∷ ("A9 1 by 2^1021, at f32 2^125: 1; both doubled: 2", wrap_by f (two_to (emax f - 2)) (int 1) (int 1) && wrap_by f (two_to (emax f - 1)) (int 2) (int 2))
      ∷ ("A9 2^1023 by 180: 8, at f32 2^127: 128; both doubled, 2d being too large: 56", wrap_is f (two_to (emax f)) (top_wrapped f) && wrap_refused f (int 360) (inf false) 56)
      ∷ ("A9 NaN by 180: 56; +0 by 180: +0", wrap_refused f (int 180) nan 56 && wrap_is f (int 0) (int 0))
      ∷ ("A9 NaN by 0: 56; +0 by 0: 6", wrap_refused f (int 0) nan 56 && wrap_refused f (int 0) (int 0) 6)
      ∷ ("A9 NaN by an infinity: 56; +0 by an infinity: 56", wrap_refused f (inf false) nan 56 && wrap_refused f (inf false) (int 0) 56)
      ∷ ("A9 1 by −180: 6, and −1, and 2 by −360", wrap_refused f (minus 180) (int 1) 6 && (wrap_refused f (minus 180) (minus 1) 6 && wrap_refused f (minus 360) (int 2) 6))
      ∷ ("C10 S", take 1 (c10 f).s are (int 16 ∷ []))
      ∷ ("C10 K", take 1 (gain f (c10 f)) are (frac 1 4 ∷ []))
      ∷ ("C12 mean", take 1 (mean_of f (int 179 ∷ minus 171 ∷ int 169 ∷ []) 1 2 (w0m_of f 1 c1) (weights_of f 1 c1) (Turn (int 180) ∷ [])) are (int 179 ∷ []))
      ∷ []

  abbrev pub call_cases : List (String × Bool)
  call_cases = against story (told f (at_first f) (map (λ e. e.1.0) story))

  abbrev pub root_cases : List (String × Bool)
  root_cases = against (root_story f) (told f (new_answer f 1 (int 0 ∷ []) (int 2 ∷ []) (int 0 ∷ []) c1).filter (map (λ e. e.1.0) (root_story f)))

  abbrev pub setting_cases : List (String × Bool)
  setting_cases = against setting_story (told f (at_first f) (map (λ e. e.1.0) setting_story))

  -- New with bad numbers in two slices or more, or in two parameters; parameters without a bad number fail 6, as kappa = −2 makes N 0
  abbrev pub place_cases : List (String × Bool)
  place_cases =
      let fine = ones 10 in
      let unfit : Params = params (int 1) (int 0) (minus 2) in
      ("A5 New, x before P", new_is f (bad_at 1) (bad_at 0) fine unfit 51 1)
      ∷ ("A5 New, P before Q", new_is f fine (bad_at 3) (bad_at 0) unfit 52 3)
      ∷ ("A5 New, Q before parameters", new_is f fine fine (bad_at 2) (params nan nan nan) 53 2)
      ∷ ("A5 New, beta before kappa", new_is f fine fine fine (params (int 1) nan nan) 56 1)
      ∷ ("A5 New, 6", new_is f fine fine fine unfit 6 0)
      ∷ against place_story (told f (two_states f) (map (λ e. e.1.0) place_story))

  -- of a filter of either width
  abbrev pub filter_cases : List (String × Bool)
  filter_cases = leaf_cases ++ (call_cases ++ (root_cases ++ (setting_cases ++ place_cases)))

-- of the flat close; on two states the run of `place_story` goes on
abbrev pub flat_cases : List (String × Bool)
flat_cases =
    against flat_story (told binary64 (at_first binary64) (map (λ e. e.1.0) flat_story))
    ++ drop (length place_story) (against (place_story ++ flat_place_story) (told binary64 (two_states binary64) (map (λ e. e.1.0) (place_story ++ flat_place_story))))

abbrev pub stepped_cases : List (String × Bool)
stepped_cases =
    against stepped_story (told binary64 (at_first binary64) (map (λ e. e.1.0) stepped_story))
    ++ (against stepped_flat_story (told binary64 (at_first binary64) (map (λ e. e.1.0) stepped_flat_story))
    ++ (against stepped_place_story (told binary64 (two_states binary64) (map (λ e. e.1.0) stepped_place_story))
    ++ against stepped_sides_story (map (λ t. t.told) (pair_told binary64 both (map (λ e. e.1.0) stepped_sides_story)))))

abbrev pub pair_cases : List (String × Bool)
pair_cases =
    let fine = ones 10 in
    let unfit : Params = params (int 1) (int 0) (minus 2) in
    ("A4 New, a short P and a number", new_pair_is 1 (nan ∷ []) (int 4 ∷ []) (int 3 ∷ []) [] (int 1 ∷ []) c4 2 0)
    ∷ ("A4 New, a number and parameters", new_pair_is 1 (int 2 ∷ []) (int 4 ∷ []) (int 3 ∷ []) (nan ∷ []) (int 1 ∷ []) c4 52 0)
    ∷ ("A4 New, parameters", new_pair_is 1 (int 2 ∷ []) (int 4 ∷ []) (int 3 ∷ []) (int 4 ∷ []) (int 1 ∷ []) c4 6 0)
    ∷ ("A5 New of a pair, the first x before all", new_pair_is 2 (bad_at 1) (bad_at 0) (bad_at 0) (bad_at 0) (bad_at 0) (params nan nan nan) 51 1)
    ∷ ("A5 New of a pair, the first P before the second x", new_pair_is 2 fine (bad_at 2) (bad_at 0) fine fine unfit 52 2)
    ∷ ("A5 New of a pair, the second x before its P", new_pair_is 2 fine fine (bad_at 1) (bad_at 0) fine unfit 51 1)
    ∷ ("A5 New of a pair, the second P before Q", new_pair_is 2 fine fine fine (bad_at 3) (bad_at 0) unfit 52 3)
    ∷ ("A5 New of a pair, Q before parameters", new_pair_is 2 fine fine fine fine (bad_at 2) (params nan nan nan) 53 2)
    ∷ ("A5 New of a pair, beta before kappa", new_pair_is 2 fine fine fine fine fine (params (int 1) nan nan) 56 1)
    ∷ (against pair_story (map (λ t. t.told) (pair_told binary64 both (map (λ e. e.1.0) pair_story))) ++ against sides_story (map (λ t. t.told) (pair_told binary64 both_of_two (map (λ e. e.1.0) sides_story))))

-- ---- A8: records of one state and of two, byte by byte. A number whose bits are zero but for the highest two bytes: 2 is 40 00 (hex), 4 is 40 10, 1 is 3f f0, −1 is bf f0, NaN is 7f f8, −0 is 80 00

abbrev pub eight : ℕ → ℕ → List ℕ
eight second first = 0 ∷ 0 ∷ 0 ∷ 0 ∷ 0 ∷ 0 ∷ second ∷ first ∷ []

abbrev pub none : List ℕ
none = eight 0 0

abbrev pub one : List ℕ
one = eight 240 63

abbrev pub no_number : List ℕ
no_number = eight 248 127

-- 57 50 01, then x, P, Q, alpha, beta, kappa and the nine bytes of a kind
abbrev pub bytes_with : List ℕ → List ℕ → List ℕ → List ℕ → List ℕ → List ℕ → List ℕ → List ℕ
bytes_with x p q a b k kind = 87 ∷ 80 ∷ 1 ∷ x ++ (p ++ (q ++ (a ++ (b ++ (k ++ kind)))))

-- a plain kind; a turn of 180, 40 66 80 .. (hex)
abbrev pub plain_bytes : List ℕ
plain_bytes = 0 ∷ none

abbrev pub turn_bytes : List ℕ
turn_bytes = 1 ∷ 0 ∷ 0 ∷ 0 ∷ 0 ∷ 0 ∷ 128 ∷ 102 ∷ 64 ∷ []

-- C9's filter: x = 2, P = 4, Q = 1, parameters 1, 0, 0
abbrev pub first_bytes : List ℕ → List ℕ
first_bytes kind = bytes_with (eight 0 64) (eight 16 64) one one none none kind

-- two states, the second a turn: x = (40 09 21 fb 54 44 2d 18, 2), P = (4, 2; 1, 0), Q = (1, 0; 2, 4), parameters 1, 0, 0
abbrev pub two_bytes : List ℕ
two_bytes =
    87 ∷ 80 ∷ 2 ∷ 24 ∷ 45 ∷ 68 ∷ 84 ∷ 251 ∷ 33 ∷ 9 ∷ 64 ∷ eight 0 64
    ++ (eight 16 64 ++ (eight 0 64 ++ (one ++ (none ++ (one ++ (none ++ (eight 0 64 ++ (eight 16 64 ++ (one ++ (none ++ (none ++ (plain_bytes ++ turn_bytes))))))))))))

-- what a save tells: its number and the bytes handed out
abbrev pub saving : ℕ → List ℕ → Float → Float → Bool → Told
saving number bytes x p stale = record { reply = record { refusal = placeless number; given = []; stale = true; bytes = bytes }; x = x ∷ []; p = p ∷ []; stale = stale }

abbrev pub room : ℕ → Call
room k = reading (save (replicate k 7))

abbrev pub record_story : List (String × (Call × Told))
record_story =
    ("A8 saved", (room 60, saving 0 (first_bytes plain_bytes) (int 2) (int 4) true))
    ∷ ("A8 saved into more", (room 63, saving 0 (first_bytes plain_bytes) (int 2) (int 4) true))
    ∷ ("A8 no room", (room 59, saving 2 [] (int 2) (int 4) true))
    ∷ ("A8 open", (setting (open_prediction three), telling 0 (int 2 ∷ int 4 ∷ int 0 ∷ []) (int 2) (int 4) true))
    ∷ ("A8 open before no room", (room 0, saving 3 [] (int 2) (int 4) true))
    ∷ ("A8 predicted", (closing (close_prediction (int 2 ∷ int 4 ∷ int 0 ∷ [])), telling 0 [] (int 2) (int 5) false))
    ∷ ("A8 not stale", (room 60, saving 11 [] (int 2) (int 5) false))
    ∷ ("A8 no room before not stale", (room 59, saving 2 [] (int 2) (int 5) false))
    ∷ ("A8 a turn", (writing (set_kind 0 (Turn (int 180))), telling 0 [] (int 2) (int 5) true))
    ∷ ("A8 P = 4", (setting (set_p (int 4 ∷ [])), telling 0 [] (int 2) (int 4) true))
    ∷ ("A8 the turn saved", (room 60, saving 0 (first_bytes turn_bytes) (int 2) (int 4) true))
    ∷ []

-- what bytes read as: the number and the place; taken, the record of what is read
abbrev pub load_is : List ℕ → ℕ → ℕ → Bool
load_is b number place = says (load_answer binary64 b).refusal number place

abbrev pub load_cases : List (String × Bool)
load_cases =
    let x = eight 0 64 in
    let p = eight 16 64 in
    let read = (load_answer binary64 two_bytes).filter in
    ("A8 read", load_is (first_bytes turn_bytes) 0 0 && same_bytes (bytes_of (load_answer binary64 (first_bytes turn_bytes)).filter) (first_bytes turn_bytes))
    ∷ ("A8 two states", load_is two_bytes 0 0 && (same_bytes (bytes_of read) two_bytes && (take 2 read.track.x are (of_bits binary64 4614256656552045848 ∷ int 2 ∷ []))))
    ∷ ("A8 two states, P and Q", (take 4 read.track.p are four (int 4) (int 2) (int 1) (int 0)) && (take 4 read.sheet.q are four (int 1) (int 0) (int 2) (int 4)))
    ∷ ("A8 two states, parameters and kinds", (values_of read.sheet.params are (int 1 ∷ int 0 ∷ int 0 ∷ [])) && (halves (take 2 read.sheet.kinds) are (int 0 ∷ int 180 ∷ [])))
    ∷ ("A8 read from more", load_is (first_bytes plain_bytes ++ (7 ∷ [])) 0 0)
    ∷ ("A8 no bytes", load_is [] 2 0)
    ∷ ("A8 two bytes", load_is (87 ∷ 80 ∷ []) 2 0)
    ∷ ("A8 nine states before the mark", load_is (0 ∷ 0 ∷ 9 ∷ []) 1 0)
    ∷ ("A8 no states", load_is (87 ∷ 80 ∷ 0 ∷ []) 1 0)
    ∷ ("A8 cut before the mark", load_is (0 ∷ 0 ∷ 1 ∷ []) 2 0)
    ∷ ("A8 one byte short", load_is (take 59 (first_bytes plain_bytes)) 2 0)
    ∷ ("A8 a wrong mark before a number", load_is (87 ∷ 81 ∷ drop 2 (bytes_with no_number p one one none none plain_bytes)) 12 0)
    ∷ ("A8 the first byte of the mark", load_is (80 ∷ drop 1 (first_bytes plain_bytes)) 12 0)
    ∷ ("A8 kind byte 2", load_is (first_bytes (2 ∷ none)) 12 0)
    ∷ ("A8 plain with −0", load_is (first_bytes (0 ∷ eight 0 128)) 12 0)
    ∷ ("A8 x before P", load_is (bytes_with no_number no_number one one none none plain_bytes) 51 0)
    ∷ ("A8 P before Q", load_is (bytes_with x no_number no_number one none none plain_bytes) 52 0)
    ∷ ("A8 Q before parameters", load_is (bytes_with x p no_number no_number none none plain_bytes) 53 0)
    ∷ ("A8 beta before a half-turn", load_is (bytes_with x p one one no_number none (1 ∷ no_number)) 56 1)
    ∷ ("A8 a half-turn before 6", load_is (bytes_with x p one one none (eight 240 191) (1 ∷ no_number)) 56 0)
    ∷ ("A8 6 of the parameters", load_is (bytes_with x p one one none (eight 240 191) plain_bytes) 6 0)
    ∷ ("A8 6 of a turn", load_is (first_bytes (1 ∷ none)) 6 0)
    ∷ []

-- what was read answers as C9 has it
abbrev pub record_cases : List (String × Bool)
record_cases =
    against record_story (told binary64 (at_first binary64) (map (λ e. e.1.0) record_story))
    ++ (load_cases ++ against story (told binary64 (load_answer binary64 (first_bytes plain_bytes)).filter (map (λ e. e.1.0) story)))

-- by width
abbrev pub cases : List (String × List (String × Bool))
cases = ("f64", filter_cases binary64 ++ (flat_cases ++ (stepped_cases ++ (pair_cases ++ record_cases)))) ∷ ("f32", filter_cases binary32) ∷ []
