-- Filters: a filter is a sheet and a track. What a call may see of one, and the changes that an accepted call makes, to the sheet or to the track. A change says itself whatever it installs, so that nothing left over can reach what counts. Definitions only.
use Rattle.std.specs.Prelude.{ℕ, Bool, true, false, ◌||◌, cond, List, [], Float}
use Rattle.floats.specs.Numbers.{zeros}
use Rattle.angles.specs.Kinds.{Kind}
use Rattle.sigma.specs.Weights.{Params}
use Rattle.filter.specs.declared.Stage.{Stage}
use Rattle.filter.specs.declared.Stage.TheVariants.{Shut, Predicting, Correcting, PredictingStepped, CorrectingStepped}
use Rattle.filter.specs.Types.{Weighted}
use Rattle.filter.specs.Types.{Kept}
use Rattle.filter.specs.Types.{Sheet}
use Rattle.filter.specs.Types.{Track}
use Rattle.filter.specs.Types.{Filter}

abbrev pub sheet : ℕ → List Float → Params → List Kind → Sheet
sheet n q params kinds = record { n = n; q = q; params = params; kinds = kinds }

abbrev pub track : List Float → List Float → List Float → List Float → Bool → Stage → List Float → List Float → Kept → Track
track x p weights points stale stage dw dp kept = record { x = x; p = p; weights = weights; points = points; stale = stale; stage = stage; drawn_weights = dw; drawn_points = dp; kept = kept }

abbrev pub filter : Sheet → Track → Filter
filter s t = record { sheet = s; track = t }

-- ---- what is open

abbrev pub is_shut : Stage → Bool
is_shut Shut = true
is_shut Predicting = false
is_shut Correcting = false
is_shut PredictingStepped = false
is_shut CorrectingStepped = false

-- the whole-list way
abbrev pub is_predicting : Stage → Bool
is_predicting Shut = false
is_predicting Predicting = true
is_predicting Correcting = false
is_predicting PredictingStepped = false
is_predicting CorrectingStepped = false

abbrev pub is_correcting : Stage → Bool
is_correcting Shut = false
is_correcting Predicting = false
is_correcting Correcting = true
is_correcting PredictingStepped = false
is_correcting CorrectingStepped = false

-- one point at a time
abbrev pub is_predicting_stepped : Stage → Bool
is_predicting_stepped Shut = false
is_predicting_stepped Predicting = false
is_predicting_stepped Correcting = false
is_predicting_stepped PredictingStepped = true
is_predicting_stepped CorrectingStepped = false

abbrev pub is_correcting_stepped : Stage → Bool
is_correcting_stepped Shut = false
is_correcting_stepped Predicting = false
is_correcting_stepped Correcting = false
is_correcting_stepped PredictingStepped = false
is_correcting_stepped CorrectingStepped = true

-- either way; and either sort
abbrev pub is_correction : Stage → Bool
is_correction t = is_correcting t || is_correcting_stepped t

abbrev pub is_whole : Stage → Bool
is_whole t = is_predicting t || is_correcting t

abbrev pub is_stepped : Stage → Bool
is_stepped t = is_predicting_stepped t || is_correcting_stepped t

-- ---- scratch: what an open call has drawn, and what a stepped one keeps: how many images are in, whether the point after them has been asked for, the m that a correction's first image has named (0 before, and in a prediction), and the images, one after the other

abbrev pub keeping : ℕ → Bool → ℕ → List Float → Kept
keeping at asked m images = record { at = at; asked = asked; m = m; images = images }

-- the +0 of it
abbrev pub nothing_kept : Kept
nothing_kept = keeping 0 false 0 (zeros 136)

-- a track as a call may see it: the current points and weights only while not stale, the drawn ones only while a call is open, what is kept only in a stepped call; and a filter, with its sheet
abbrev pub seen_of : Track → Track
seen_of t =
    track t.x t.p (cond t.stale [] t.weights) (cond t.stale [] t.points) t.stale t.stage
    (cond (is_shut t.stage) [] t.drawn_weights) (cond (is_shut t.stage) [] t.drawn_points) (cond (is_stepped t.stage) t.kept nothing_kept)

abbrev pub seen : Filter → Filter
seen s = filter s.sheet (seen_of s.track)

-- ---- changes

-- of a call that writes the sheet, taken with nothing open
pub data Writing : Type 0 where
  q_set : List Float → Writing
  params_set : Params → Writing
  kinds_set : List Kind → Writing

-- of any other call taken with nothing open
pub data Setting : Type 0 where
  x_set p_set : List Float → Setting
  opened_prediction opened_correction : Weighted → Setting
  opened_prediction_stepped opened_correction_stepped : Weighted → Setting

-- of a close: x, P, the points and weights that it installs, and the stale mark
pub record Closing : Type 0 where
  pub x : List Float
  pub p : List Float
  pub installed : Weighted
  pub stale : Bool

pub data Change : Type 0 where
  writes : Writing → Change
  sets : Setting → Change
  closes : Closing → Change
  -- of a stepped call: a point asked for, or its image taken
  keeps : Kept → Change
  abandons reads : Change

-- ---- what they leave. No setter touches points or weights; each but that of Q marks stale, the same number set again too

abbrev pub written : Sheet → Writing → Sheet
written s (q_set v) = sheet s.n v s.params s.kinds
written s (params_set v) = sheet s.n s.q v s.kinds
written s (kinds_set v) = sheet s.n s.q s.params v

-- with this stale mark
abbrev pub with_mark : Bool → Track → Track
with_mark m t = track t.x t.p t.weights t.points m t.stage t.drawn_weights t.drawn_points t.kept

-- of a track on the sheet that is written
abbrev pub marked : Track → Writing → Track
marked t (q_set v) = t
marked t (params_set v) = with_mark true t
marked t (kinds_set v) = with_mark true t

-- a call is open, with what it has drawn; nothing is kept yet
abbrev pub with_drawn : Track → Stage → Weighted → Track
with_drawn t stage d = track t.x t.p t.weights t.points t.stale stage d.weights d.points nothing_kept

-- the same call, with this kept
abbrev pub with_kept : Track → Kept → Track
with_kept t k = track t.x t.p t.weights t.points t.stale t.stage t.drawn_weights t.drawn_points k

abbrev pub nothing_drawn : Weighted
nothing_drawn = record { weights = zeros 17; points = zeros 136 }

abbrev pub set : Track → Setting → Track
set t (x_set v) = track v t.p t.weights t.points true t.stage t.drawn_weights t.drawn_points t.kept
set t (p_set v) = track t.x v t.weights t.points true t.stage t.drawn_weights t.drawn_points t.kept
set t (opened_prediction d) = with_drawn t Predicting d
set t (opened_correction d) = with_drawn t Correcting d
set t (opened_prediction_stepped d) = with_drawn t PredictingStepped d
set t (opened_correction_stepped d) = with_drawn t CorrectingStepped d

-- scratch goes to +0
abbrev pub close : Closing → Track
close c = track c.x c.p c.installed.weights c.installed.points c.stale Shut (zeros 17) (zeros 136) nothing_kept

-- in every bit but scratch, what it was before the open call; scratch is +0
abbrev pub shut : Track → Track
shut t = with_drawn t Shut nothing_drawn

-- what a change leaves of the sheet and of the track
abbrev pub sheet_after : Sheet → Change → Sheet
sheet_after s (writes c) = written s c
sheet_after s (sets c) = s
sheet_after s (closes c) = s
sheet_after s (keeps k) = s
sheet_after s abandons = s
sheet_after s reads = s

abbrev pub track_after : Track → Change → Track
track_after t (writes c) = marked t c
track_after t (sets c) = set t c
track_after t (closes c) = close c
track_after t (keeps k) = with_kept t k
track_after t abandons = shut t
track_after t reads = t

abbrev pub changed : Filter → Change → Filter
changed s c = filter (sheet_after s.sheet c) (track_after s.track c)

-- the two that are named by themselves: an open call abandoned; one closed with these x and P, the points v and the opened weights
abbrev pub abandoned : Filter → Filter
abandoned s = changed s abandons

abbrev pub closed_with : Filter → List Float → Bool → List Float → List Float → Filter
closed_with s v stale x p = changed s (closes (record { x = x; p = p; installed = record { weights = s.track.drawn_weights; points = v }; stale = stale }))
