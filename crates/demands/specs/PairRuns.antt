-- Runs of calls on a pair: what they tell, and what each side hears of them; pairs alike but for what is left over, and calls struck out. Definitions only.
use Rattle.std.specs.Prelude.{ℕ, zero, suc, ◌≡◌, Bool, true, not, ◌&&◌, ◌||◌}
use Rattle.std.proofs.Math.Bool.{false, cond}
use mathlib.Core.List.{List, [], ◌∷◌, ◌++◌}
use Rattle.std.specs.Float.{Format}
use Rattle.floats.specs.declared.Refusal.TheVariants.{Stage as STAGE}
use Rattle.floats.specs.Refusal.{refused}
use Rattle.filter.specs.Types.{Sheet}
use Rattle.filter.specs.Types.{Track}
use Rattle.filter.specs.Types.{Filter}
use Rattle.filter.specs.Filters.{with_mark, filter, is_shut}
use Rattle.filter.specs.Calls.{SheetCall, SetCall, Call, writing, setting, stepping, closing, closing_stepped, abandon, reading}
use Rattle.filter.specs.Steps.{Stepped, stepped, step}
use Rattle.pairs.specs.declared.Pair.{Pair}
use Rattle.pairs.specs.declared.Side.{Side}
use Rattle.pairs.specs.declared.Side.TheVariants.{First, Second}
use Rattle.pairs.specs.Pairs.{track_at, solo, on_sheet, PairStepped, pair_step}
use Rattle.demands.specs.Runs.{Told, tells, AlikeTracks}
use Rattle.demands.specs.Settings.{sheet_marks}

abbrev pub other : Side → Side
other First = Second
other Second = First

abbrev pub same : Side → Side → Bool
same First First = true
same First Second = false
same Second First = false
same Second Second = true

-- a call on a side
pub record SideCall : Type 0 where
  pub side : Side
  pub call : Call

abbrev pub by : Side → Call → SideCall
by w c = record { side = w; call = c }

-- a step of a pair, as side w has it
abbrev pub on : Side → PairStepped → Stepped
on w t = record { filter = solo t.pair w; reply = t.reply }

-- what each call tells, and the state, covariance and stale mark of its side after it
pub record SideTold : Type 0 where
  pub side : Side
  pub told : Told

module _ (f : Format) where
  unfoldable pub pair_tells : Pair → SideCall → SideTold
  unfolding pair_step
  pair_tells p t = record { side = t.side; told = tells (on t.side (pair_step f p t.side t.call)) }

  unfoldable pub pair_told : Pair → List SideCall → List SideTold
  unfolding pair_step
  pair_told p [] = []
  pair_told p (t ∷ ts) = pair_tells p t ∷ pair_told (pair_step f p t.side t.call).pair ts

  -- the pair after a run
  unfoldable pub pair_ran : Pair → List SideCall → Pair
  unfolding pair_step
  pair_ran p [] = p
  pair_ran p (t ∷ ts) = pair_ran (pair_step f p t.side t.call).pair ts

-- what one side tells
unfoldable pub of_side : Side → List SideTold → List Told
of_side w [] = []
of_side w (t ∷ ts) = cond (same t.side w) (t.told ∷ of_side w ts) (of_side w ts)

-- ---- WHAT ONE SIDE CAN NOTICE OF THE OTHER

pub data Heard : Type 0 where
  -- a call of its own
  own : Call → Heard
  -- a sheet change of its own, turned away since the partner has a call open
  turned_away : Heard
  -- the partner's accepted sheet change
  wrote : SheetCall → Heard

-- a sheet change by side w while the partner has a call open
abbrev pub barred : Pair → Side → Call → Bool
barred p w c = on_sheet c && not (is_shut (track_at p (other w)).stage)

-- of a call of the partner that has come to the number r
abbrev pub from_partner : Call → ℕ → List Heard
from_partner (writing c) zero = wrote c ∷ []
from_partner (writing c) (suc r) = []
from_partner (setting c) r = []
from_partner (stepping c) r = []
from_partner (closing c) r = []
from_partner (closing_stepped c) r = []
from_partner abandon r = []
from_partner (reading c) r = []

module _ (f : Format) where
  unfoldable pub hears : Side → Pair → List SideCall → List Heard
  unfolding pair_step
  hears w p [] = []
  hears w p (t ∷ ts) =
      let u = pair_step f p t.side t.call in
      cond (same t.side w) (cond (barred p w t.call) turned_away (own t.call) ∷ []) (from_partner t.call u.reply.refusal.number) ++ hears w u.pair ts

  -- a filter alone that is given these, and what it tells at its own calls, those turned away among them
  unfoldable pub alone_told : Filter → List Heard → List Told
  unfolding step
  alone_told s [] = []
  alone_told s (own c ∷ hs) = tells (step f s c) ∷ alone_told (step f s c).filter hs
  alone_told s (turned_away ∷ hs) = tells (stepped s (refused STAGE)) ∷ alone_told s hs
  alone_told s (wrote c ∷ hs) = alone_told (step f s (writing c)).filter hs

-- The same by what stands on the sheet: at a call of its own a side meets the sheet's contents, the mark that a change by the partner may have set since its last call, and whether the partner's open call turns it away.
pub record Noticed : Type 0 where
  pub call : Call
  pub sheet : Sheet
  pub mark : Bool
  pub turned : Bool

-- whether a call of the partner that has come to the number r has marked
abbrev pub marks_by : Call → ℕ → Bool
marks_by (writing c) zero = sheet_marks c
marks_by (writing c) (suc r) = false
marks_by (setting c) r = false
marks_by (stepping c) r = false
marks_by (closing c) r = false
marks_by (closing_stepped c) r = false
marks_by abandon r = false
marks_by (reading c) r = false

-- a track with a mark, if there is one
abbrev pub remarked : Bool → Track → Track
remarked m t = with_mark (m || t.stale) t

module _ (f : Format) where
  -- m: the mark so far
  unfoldable pub notices : Side → Bool → Pair → List SideCall → List Noticed
  unfolding pair_step
  notices w m p [] = []
  notices w m p (t ∷ ts) =
      let u = pair_step f p t.side t.call in
      cond (same t.side w)
      (record { call = t.call; sheet = p.sheet; mark = m; turned = barred p w t.call } ∷ notices w false u.pair ts)
      (notices w (m || marks_by t.call u.reply.refusal.number) u.pair ts)

  -- a track that meets these, and what it tells
  unfoldable pub meeting_told : Track → List Noticed → List Told
  unfolding step
  meeting_told t [] = []
  meeting_told t (k ∷ ks) =
      let s = filter k.sheet (remarked k.mark t) in
      let u = cond k.turned (stepped s (refused STAGE)) (step f s k.call) in
      tells u ∷ meeting_told u.filter.track ks

-- ---- demand 3

-- two pairs that agree on the sheet; the four sides are stale with nothing open, and firsts and seconds have the same state and covariance, whatever their points, weights and scratch
pub record AlikePairs (p q : Pair) : Type 0 where
  pub sheet : p.sheet ≡ q.sheet
  pub first : AlikeTracks p.first q.first
  pub second : AlikeTracks p.second q.second

-- the sides that a call on v reaches: v, and by a sheet change both
abbrev pub reaches : Side → Call → Side → Bool
reaches v c w = same v w || on_sheet c

-- of which sides an open call is being struck
abbrev pub Striking : Type 0
Striking = Side → Bool

abbrev pub nobody : Striking
nobody w = false

-- the same with t for side w
abbrev pub updated : Side → Bool → Striking → Striking
updated w t b v = cond (same w v) t (b v)

module _ (f : Format) where
  -- The second list is the first with some refused calls struck out, and some opens with all that side's calls up to its abandon.
  -- Meanwhile a call is kept only if it reaches no such side: sheet changes, which are refused then, go too; the partner's other calls may stay.
  pub data PairStruck : Striking → Pair → List SideCall → List SideCall → Type 0 where
    none_left : {b : Striking} {p : Pair} → ((w : Side) → b w ≡ false) → PairStruck b p [] []
    call_kept :
        {b : Striking} {p : Pair} {w : Side} {c : Call} {cs ds : List SideCall} → ((v : Side) → reaches w c v ≡ true → b v ≡ false)
        → PairStruck b (pair_step f p w c).pair cs ds → PairStruck b p (by w c ∷ cs) (by w c ∷ ds)
    refused_struck :
        {b : Striking} {p : Pair} {w : Side} {c : Call} {cs ds : List SideCall} → ((pair_step f p w c).reply.refusal.number ≡ 0 → ⊥)
        → PairStruck b (pair_step f p w c).pair cs ds → PairStruck b p (by w c ∷ cs) ds
    open_struck :
        {b : Striking} {p : Pair} {w : Side} {c : SetCall} {cs ds : List SideCall} → b w ≡ false → is_shut (track_at p w).stage ≡ true → is_shut (track_at (pair_step f p w (setting c)).pair w).stage ≡ false
        → PairStruck (updated w true b) (pair_step f p w (setting c)).pair cs ds → PairStruck b p (by w (setting c) ∷ cs) ds
    own_struck :
        {b : Striking} {p : Pair} {w : Side} {c : Call} {cs ds : List SideCall} → b w ≡ true → is_shut (track_at (pair_step f p w c).pair w).stage ≡ false
        → PairStruck b (pair_step f p w c).pair cs ds → PairStruck b p (by w c ∷ cs) ds
    abandon_struck :
        {b : Striking} {p : Pair} {w : Side} {cs ds : List SideCall} → b w ≡ true
        → PairStruck (updated w false b) (pair_step f p w abandon).pair cs ds → PairStruck b p (by w abandon ∷ cs) ds

  -- what the run of the first list tells at the calls that are not struck
  unfoldable pub pair_rest : {b : Striking} {p : Pair} {cs ds : List SideCall} → PairStruck b p cs ds → List SideTold
  pair_rest (none_left h) = []
  pair_rest (call_kept {p = p} {w = w} {c = c} h k) = pair_tells f p (by w c) ∷ pair_rest k
  pair_rest (refused_struck r k) = pair_rest k
  pair_rest (open_struck i h o k) = pair_rest k
  pair_rest (own_struck i o k) = pair_rest k
  pair_rest (abandon_struck i k) = pair_rest k

  -- side w has a call open, and still has one after each of the calls
  abbrev pub OpenThrough : Side → Pair → List SideCall → Type 0
  OpenThrough w p [] = is_shut (track_at p w).stage ≡ false
  OpenThrough w p (t ∷ ts) = (is_shut (track_at p w).stage ≡ false) × OpenThrough w (pair_step f p t.side t.call).pair ts

-- the calls that don't reach side w: the partner's, but for sheet changes
abbrev pub unreaching : Side → List SideCall → List SideCall
unreaching w [] = []
unreaching w (t ∷ ts) = cond (reaches t.side t.call w) (unreaching w ts) (t ∷ unreaching w ts)
