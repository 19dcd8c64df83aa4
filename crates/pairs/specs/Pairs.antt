-- Pairs: one sheet and two tracks. A track with the sheet is a filter, and a call on a side is that filter's call; but a change of the sheet is taken only while neither side has a call open, and reaches both. Definitions only.
use Rattle.std.specs.Prelude.{Bool, true, false, ◌&&◌, cond, eqb}
use Rattle.std.specs.Float.{Format}
use Rattle.floats.specs.Refusal.{Outcome, refused, accepted}
use Rattle.filter.specs.Types.{Sheet}
use Rattle.filter.specs.Types.{Track}
use Rattle.filter.specs.Types.{Filter}
use Rattle.filter.specs.Types.{Answer}
use Rattle.matrix.specs.Results.{run}
use Rattle.filter.specs.Asked.{Asks, guarded}
use Rattle.filter.specs.Filters.{filter, is_shut, seen, Change, sheet_after, track_after}
use Rattle.filter.specs.Calls.{Call, writing, setting, stepping, closing, closing_stepped, abandon, reading, fits, needs, asking, Done, plan}
use Rattle.filter.specs.Steps.{Reply, stepped}
use Rattle.pairs.specs.declared.Pair.{Pair}
use Rattle.pairs.specs.declared.Side.{Side}
use Rattle.pairs.specs.declared.Side.TheVariants.{First, Second}
use Rattle.pairs.specs.declared.PairAnswer.{PairAnswer}

abbrev pub pair : Sheet → Track → Track → Pair
pair s t u = record { sheet = s; first = t; second = u }

abbrev pub track_at : Pair → Side → Track
track_at p First = p.first
track_at p Second = p.second

-- a side as a filter
abbrev pub solo : Pair → Side → Filter
solo p w = filter p.sheet (track_at p w)

-- ---- one step

abbrev pub on_sheet : Call → Bool
on_sheet (writing c) = true
on_sheet (setting c) = false
on_sheet (stepping c) = false
on_sheet (closing c) = false
on_sheet (closing_stepped c) = false
on_sheet abandon = false
on_sheet (reading c) = false

-- 3: a change of the sheet fits while neither side has a call open, any other call where it fits what its own side has open
abbrev pub neither_open : Pair → Bool
neither_open p = is_shut p.first.stage && is_shut p.second.stage

abbrev pub pair_fits : Pair → Side → Call → Bool
pair_fits p w c = cond (on_sheet c) (neither_open p) (fits c (seen (solo p w)))

-- what is asked: that, and the rest as of the side's filter
abbrev pub pair_asks : Pair → Side → Call → Asks
pair_asks p w c = asking (pair_fits p w c) p.sheet.n (needs (seen (solo p w)) c)

abbrev pub pair_outcome : Format → Pair → Side → Call → Outcome Done
pair_outcome f p w c = guarded f (pair_asks p w c) (run (plan f (seen (solo p w)) c))

-- what it leaves, taken: a change of the sheet reaches the other track too, any other call leaves it as it was
abbrev pub other_after : Call → Track → Change → Track
other_after c t d = cond (on_sheet c) (track_after t d) t

abbrev pub pair_after : Call → Pair → Side → Change → Pair
pair_after c p First d = pair (sheet_after p.sheet d) (track_after p.first d) (other_after c p.second d)
pair_after c p Second d = pair (sheet_after p.sheet d) (other_after c p.first d) (track_after p.second d)

-- and refused: nothing has changed
abbrev pub leaves : Call → Pair → Side → Outcome Done → Pair
leaves c p w (refused r) = p
leaves c p w (accepted d) = pair_after c p w d.change

pub record PairStepped : Type 0 where
  pub pair : Pair
  pub reply : Reply

-- a call tells what it has come to, as a filter's call does
unfoldable pub pair_step : Format → Pair → Side → Call → PairStepped
unfolding guarded run
pair_step f p w c = let o = pair_outcome f p w c in record { pair = leaves c p w o; reply = (stepped (solo p w) o).reply }

-- ---- as the code hands it back

abbrev pub pair_answered : PairStepped → PairAnswer
pair_answered t = record { pair = t.pair; refusal = t.reply.refusal }

-- the answer of a call on side w that its filter has answered so
abbrev pub put : Pair → Side → Answer → PairAnswer
put p First a = record { pair = pair a.filter.sheet a.filter.track p.second; refusal = a.refusal }
put p Second a = record { pair = pair a.filter.sheet p.first a.filter.track; refusal = a.refusal }

-- the answer of a change of the sheet that the first side has answered by a and the second by b
abbrev pub rewritten : Pair → Answer → Answer → PairAnswer
rewritten p a b =
    cond (eqb a.refusal.number 3) (record { pair = p; refusal = a.refusal })
    (record { pair = cond (eqb b.refusal.number 0) (pair a.filter.sheet a.filter.track b.filter.track) p; refusal = b.refusal })
