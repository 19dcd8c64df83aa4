-- What holds of every filter that the demands speak of, and the numbers that are handed out. Definitions only.
use Rattle.std.specs.Prelude.{ℕ, ◌+◌, ◌-◌, ◌*◌, ◌≤◌, ◌≡◌, true, false, not, ◌&&◌, cond, List, [], ◌∷◌, ◌++◌, eqb, length, take, drop, get_or, Float}
use Rattle.std.specs.Float.{Format}
use Rattle.floats.specs.Refusal.{accepted}
use Rattle.floats.specs.Numbers.{zeros, all_finite}
use Rattle.angles.specs.Kinds.{plain}
use Rattle.sigma.specs.Weights.{Params}
use Rattle.sigma.specs.Weights.{scale_of, weights_of, weights_pass}
use Rattle.sigma.specs.Draw.{point_numbers, draw_of}
use Rattle.filter.specs.Types.{Filter}
use Rattle.filter.specs.Types.{Weighted}
use Rattle.filter.specs.Asked.{in_range, fit, every}
use Rattle.filter.specs.Filters.{is_shut, is_correction, is_stepped, nothing_kept}
use Rattle.filter.specs.Calls.{Call, halves, values_of, as_kinds}
use Rattle.filter.specs.Steps.{step}
use Rattle.filter.specs.New.{new_answer}
use Rattle.filter.specs.Load.{load_answer}
use Rattle.demands.specs.Runs.{Told, Alike}

-- an array of m places of which k are in use: those are finite, the others +0
pub record Filled (k m : ℕ) (l : List Float) : Type 0 where
  pub long : length l ≡ m
  pub bounded : all_finite (take k l) ≡ true
  pub unused : drop k l ≡ zeros (m - k)

-- points and weights that count: 2n+1 finite points, and as many finite weights, which are those of the parameters p (from 1 state on they are finite by that)
pub record Laid (f : Format) (n : ℕ) (p : Params) (w : Weighted) : Type 0 where
  pub weights_of_lem : w.weights ≡ weights_of f n p
  pub weights : Filled (n + n + 1) 17 w.weights
  pub points : Filled (point_numbers n) 136 w.points

-- the points that an open call has drawn: in a correction while not stale the current ones; in any other those that the draw from x and P gives, by the parameters
abbrev pub DrawnFrom : Format → Filter → Type 0
DrawnFrom f s = cond (is_correction s.track.stage && not s.track.stale) (accepted s.track.points) (draw_of f s.sheet.n s.track.x s.track.p (scale_of f s.sheet.n s.sheet.params)) ≡ accepted s.track.drawn_points

-- the numbers of an image in a stepped call: of a prediction n, of a correction the m that the first image has named
abbrev pub each : Filter → ℕ
each s = cond (is_correction s.track.stage) s.track.kept.m s.sheet.n

-- what a stepped call keeps: no more than 2n+1 images, finite and one after the other, with +0 behind them; m is 1 to 4 from the first image of a correction on, and else 0; what has been asked for is a point
pub record Keeps (s : Filter) : Type 0 where
  pub few : s.track.kept.at ≤ s.sheet.n + s.sheet.n + 1
  pub images : Filled (s.track.kept.at * each s) 136 s.track.kept.images
  pub unnamed : s.track.kept.at ≡ 0 → s.track.kept.m ≡ 0
  pub named : 1 ≤ s.track.kept.at → cond (is_correction s.track.stage) (in_range 1 4 s.track.kept.m) (eqb s.track.kept.m 0) ≡ true
  pub asked : s.track.kept.asked ≡ true → s.track.kept.at ≤ s.sheet.n + s.sheet.n

-- THE INVARIANT
pub record Sound (f : Format) (s : Filter) : Type 0 where
  pub small : s.sheet.n ≤ 8
  pub x : Filled s.sheet.n 8 s.track.x
  pub p : Filled (s.sheet.n * s.sheet.n) 64 s.track.p
  pub q : Filled (s.sheet.n * s.sheet.n) 64 s.sheet.q
  -- stored parameters and kinds have passed 56 and 6; those of the empty filter, where n = 0, pass 6 for no number of states
  pub params : all_finite (values_of s.sheet.params) ≡ true
  pub passed : 1 ≤ s.sheet.n → weights_pass f s.sheet.n s.sheet.params ≡ true
  pub kinds : all_finite (halves s.sheet.kinds) ≡ true
  pub turns : every (fit f) (as_kinds s.sheet.kinds) ≡ true
  pub eight : length s.sheet.kinds ≡ 8
  -- those past the states are plain
  pub past : (i : ℕ) → s.sheet.n ≤ i → get_or s.sheet.kinds i plain ≡ plain
  -- the current points and weights count while not stale, the drawn ones while a call is open
  pub current : s.track.stale ≡ false → Laid f s.sheet.n s.sheet.params (record { weights = s.track.weights; points = s.track.points })
  pub drawn : is_shut s.track.stage ≡ false → Laid f s.sheet.n s.sheet.params (record { weights = s.track.drawn_weights; points = s.track.drawn_points })
  pub drawn_from : is_shut s.track.stage ≡ false → DrawnFrom f s
  -- what is kept counts in a stepped call
  pub kept : is_stepped s.track.stage ≡ true → Keeps s

-- beside it, of a filter that no one has put at will: points and weights are finite with +0 in unused places while stale too, scratch is +0 while nothing is open, and nothing is kept but in a stepped call
pub record Tidy (s : Filter) : Type 0 where
  pub points : Filled (point_numbers s.sheet.n) 136 s.track.points
  pub weights : Filled (s.sheet.n + s.sheet.n + 1) 17 s.track.weights
  pub scratch_weights : is_shut s.track.stage ≡ true → s.track.drawn_weights ≡ zeros 17
  pub scratch_points : is_shut s.track.stage ≡ true → s.track.drawn_points ≡ zeros 136
  pub scratch_kept : is_stepped s.track.stage ≡ false → s.track.kept ≡ nothing_kept

module _ (f : Format) where
  -- the filters that New, load and later calls yield
  pub data Reached : Filter → Type 0 where
    made : (n : ℕ) (x p q : List Float) (params : Params) → Reached (new_answer f n x p q params).filter
    read : (b : List ℕ) → Reached (load_answer f b).filter
    further : {s : Filter} → Reached s → (c : Call) → Reached (step f s c).filter

  -- the filters that the demands speak of: those, and such filters, stale and with no call open, with points, weights and scratch put at will
  pub data Yielded : Filter → Type 0 where
    fresh_made : (n : ℕ) (x p q : List Float) (params : Params) → Yielded (new_answer f n x p q params).filter
    loaded : (b : List ℕ) → Yielded (load_answer f b).filter
    stepped_on : {s : Filter} → Yielded s → (c : Call) → Yielded (step f s c).filter
    put_at_will : {s : Filter} (t : Filter) → Yielded s → Alike s t → Yielded t

-- every number that a call hands out: those it gives, to a buffer or as values, and x and P as they stand after it (those that a saved record is written from: `record_finite` in Records)
abbrev pub handed_out : Told → List Float
handed_out t = t.reply.given ++ (t.x ++ t.p)

pub data Each {A : Type 0} (P : A → Type 0) : List A → Type 0 where
  end : Each P []
  and : {x : A} {l : List A} → P x → Each P l → Each P (x ∷ l)
