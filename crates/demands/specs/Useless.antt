-- The useless builds that document 01 names, each in its simplest form, and what they are held against; and a filter with leftovers put at will. Definitions only.
use Prim.Native.String.{String}
use Rattle.std.specs.Prelude.{◌≡◌, Bool, true, false, ◌&&◌, cond, List, [], ◌∷◌, ◌++◌, map, ◌↔◌, length, take, get_or, replicate, Float}
use Rattle.std.specs.Float.{nan, Format, binary64}
use Rattle.floats.specs.declared.Refusal.{Refusal}
use Rattle.floats.specs.Refusal.{verdict, refused}
use Rattle.floats.specs.Numbers.{plus_zero, zeros}
use Rattle.matrix.specs.Results.{planned}
use Rattle.filter.specs.Types.{Track}
use Rattle.filter.specs.Types.{Filter}
use Rattle.filter.specs.Filters.{track, with_mark, keeping, filter, seen}
use Rattle.filter.specs.Calls.{SetCall, set_x, set_p, open_prediction, open_correction, open_prediction_stepped, open_correction_stepped, Call, writing, setting, stepping, closing, closing_stepped, abandon, reading, asks, plan}
use Rattle.filter.specs.Steps.{Stepped, stepped, step}
use Rattle.demands.specs.Rows.{Due}
use Rattle.demands.specs.Runs.{Told, tells, Alike}
use Rattle.demands.specs.Written.{int, ◌is◌}
use Rattle.demands.specs.Cases.{at_first, story, against}

-- what answers calls: the right one is `step`
abbrev pub Build : Type 0
Build = Filter → Call → Stepped

abbrev pub right : Build
right = step binary64

-- ---- what stops a build

-- demand 1: a number is given at its place exactly when it is due
abbrev pub ExactlyWhen : Build → Type 0
ExactlyWhen b = (s : Filter) (c : Call) (r : Refusal) → ((b s c).reply.refusal ≡ verdict r) ↔ Due binary64 (asks (seen s) c) (planned (plan binary64 (seen s) c)) r

-- what a run tells
unfoldable pub told_by : Build → Filter → List Call → List Told
told_by b s [] = []
told_by b s (c ∷ cs) = tells (b s c) ∷ told_by b (b s c).filter cs

-- the table, C9 to C12 through the calls
abbrev pub table_by : Build → List (String × Bool)
table_by b = against story (told_by b (at_first binary64) (map (λ e. e.1.0) story))

-- demand 3: nothing left over counts
abbrev pub NothingLeftOver : Build → Type 0
NothingLeftOver b = (s t : Filter) → Alike s t → (cs : List Call) → told_by b s cs ≡ told_by b t cs

-- ---- the builds

-- refuses everything, by r
abbrev pub refusing : Refusal → Build
refusing r s c = stepped s (refused r)

-- constant numbers: whatever it hands out, x and P are +0
abbrev pub constant : Build
constant s c =
    let t = step binary64 s c in
    let v = t.filter.track in
    record {
      filter = filter t.filter.sheet (track (zeros 8) (zeros 64) v.weights v.points v.stale v.stage v.drawn_weights v.drawn_points v.kept);
      reply = record { refusal = t.reply.refusal; given = zeros (length t.reply.given); stale = t.reply.stale; bytes = t.reply.bytes };
    }

-- hands the filter back untouched
abbrev pub untouched : Build
untouched s c = record { filter = s; reply = (step binary64 s c).reply }

-- redraws at the first correction only: where weights have been installed before, an open correction goes by them and their points, stale or not
abbrev pub marking : Bool → Filter → Filter
marking m s = filter s.sheet (with_mark m s.track)

abbrev pub opens_correction : SetCall → Bool
opens_correction (set_x v) = false
opens_correction (set_p v) = false
opens_correction (open_prediction b) = false
opens_correction (open_correction b) = true
opens_correction open_prediction_stepped = false
opens_correction open_correction_stepped = true

abbrev pub first_only : Build
first_only s (writing c) = step binary64 s (writing c)
first_only s (setting c) =
    let t = step binary64 (marking (s.track.stale && (get_or s.track.weights 1 nan is plus_zero)) s) (setting c) in
    cond (opens_correction c) (record { filter = marking s.track.stale t.filter; reply = t.reply }) (step binary64 s (setting c))
first_only s (stepping c) = step binary64 s (stepping c)
first_only s (closing c) = step binary64 s (closing c)
first_only s (closing_stepped c) = step binary64 s (closing_stepped c)
first_only s abandon = step binary64 s abandon
first_only s (reading c) = step binary64 s (reading c)

-- ---- points, weights and scratch put at will; the filter of C9 with such

-- a track with 3 and 6 for points and v for weights, current and drawn, and what a stepped call might have kept: five images of nines, the next point asked for, m = 3
abbrev pub strewn : Track → Float → Track
strewn t v = track t.x t.p (replicate 17 v) (replicate 136 (int 3)) t.stale t.stage (replicate 17 v) (replicate 136 (int 6)) (keeping 5 true 3 (replicate 136 (int 9)))

abbrev pub at_will : Format → Filter
at_will f = filter (at_first f).sheet (strewn (at_first f).track (int 7))

-- the first of each
abbrev pub leftovers : Track → List Float
leftovers t = take 1 t.points ++ (take 1 t.weights ++ (take 1 t.drawn_points ++ (take 1 t.drawn_weights ++ take 1 t.kept.images)))
