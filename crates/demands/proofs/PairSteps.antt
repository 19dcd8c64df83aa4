-- One step of a pair, side by side: what it leaves of each, and what one side makes of it by itself. Assumes nothing.
use mathlib.Core.Path.{◌≡◌, refl, sym, ap, ap₂, ◌∙◌}
use mathlib.Core.Bool.{Bool, true, false, cond}
use mathlib.Core.Logic.{◌↔◌, ◌≢◌}
use native.Mathlib.Omega.{arith}
use lib.Ieee.{Format}
use Rattle.floats.specs.declared.Refusal.TheVariants.{Stage as STAGE}
use Rattle.floats.specs.Refusal.{Outcome, refused, accepted}
use Rattle.filter.specs.Types.{Filter}
use Rattle.filter.specs.Asked.{guarded}
use Rattle.filter.specs.Filters.{filter, is_shut, Change, changed}
use Rattle.filter.specs.Calls.{SheetCall, Call, writing, setting, stepping, closing, closing_stepped, abandon, reading, Done}
use Rattle.filter.specs.Steps.{Stepped, stepped, step}
use Rattle.pairs.specs.declared.Pair.{Pair}
use Rattle.pairs.specs.declared.Side.{Side}
use Rattle.pairs.specs.declared.Side.TheVariants.{First, Second}
use Rattle.pairs.specs.Pairs.{track_at, solo, on_sheet, pair_outcome, leaves, pair_step}
use Rattle.demands.specs.PairRuns.{other, on, barred, reaches}
use Rattle.demands.proofs.Rows.{two_ways}
use Rattle.demands.proofs.Table.{Own}
use Rattle.demands.proofs.Leftover.{stepped_reply, step_cases}

-- the calls that change the sheet
pub on_sheet_is : (c : Call) → (on_sheet c ≡ true) ↔ ((d : SheetCall) × (c ≡ writing d))
on_sheet_is (writing c) = (λ h. (c, refl), λ d. refl)
on_sheet_is (setting c) = (λ h. absurd (two_ways h refl), λ d. ap on_sheet d.1)
on_sheet_is (stepping c) = (λ h. absurd (two_ways h refl), λ d. ap on_sheet d.1)
on_sheet_is (closing c) = (λ h. absurd (two_ways h refl), λ d. ap on_sheet d.1)
on_sheet_is (closing_stepped c) = (λ h. absurd (two_ways h refl), λ d. ap on_sheet d.1)
on_sheet_is abandon = (λ h. absurd (two_ways h refl), λ d. ap on_sheet d.1)
on_sheet_is (reading c) = (λ h. absurd (two_ways h refl), λ d. ap on_sheet d.1)

-- a call of another sort leaves the sheet
own_sheet : (s : Filter) (c : Call) (d : Change) → on_sheet c ≡ false → Own c d → (changed s d).sheet ≡ s.sheet
own_sheet s (writing c) d h o = absurd (two_ways refl h)
own_sheet s (setting c) d h o = rw o.1
own_sheet s (stepping c) d h o = rw o.1
own_sheet s (closing c) d h o = rw o.1
own_sheet s (closing_stepped c) d h o = rw o.1
own_sheet s abandon d h o = rw o
own_sheet s (reading c) d h o = rw o

module _ (f : Format) (p : Pair) where
  -- what a call on side w comes to there
  abbrev pub side_step : Side → Call → Stepped
  side_step w c = stepped (solo p w) (pair_outcome f p w c)

  -- ---- what it leaves, by its outcome

  own_left : (w : Side) (c : Call) (o : Outcome Done) → solo (leaves c p w o) w ≡ (stepped (solo p w) o).filter
  own_left First c (refused r) = refl
  own_left First c (accepted d) = refl
  own_left Second c (refused r) = refl
  own_left Second c (accepted d) = refl

  -- of the other side: a sheet change what it would leave there, any other call its track as it was
  other_written : (w : Side) (c : SheetCall) (o : Outcome Done) → solo (leaves (writing c) p (other w) o) w ≡ (stepped (solo p w) o).filter
  other_written First c (refused r) = refl
  other_written First c (accepted d) = refl
  other_written Second c (refused r) = refl
  other_written Second c (accepted d) = refl

  other_kept : (w : Side) (c : Call) (o : Outcome Done) → on_sheet c ≡ false → track_at (leaves c p (other w) o) w ≡ track_at p w
  other_kept First c (refused r) h = refl
  other_kept First c (accepted d) h = rw h
  other_kept Second c (refused r) h = refl
  other_kept Second c (accepted d) h = rw h

  -- ---- A CALL ON A SIDE: what side w has of it

  pub on_is : (w : Side) (c : Call) → on w (pair_step f p w c) ≡ side_step w c
  unfolding pair_step
  on_is w c = ap (λ (s : Filter). record { filter = s; reply = (side_step w c).reply }) (own_left w c (pair_outcome f p w c))

  pub reply_is : (w : Side) (c : Call) → (pair_step f p w c).reply ≡ (side_step w c).reply
  unfolding pair_step
  reply_is w c = refl

  -- one that is no sheet change is the solo call
  pub solo_is : (w : Side) (c : Call) → on_sheet c ≡ false → side_step w c ≡ step f (solo p w) c
  unfolding step
  solo_is w c h = rw h

  -- a sheet change too, but where the partner has a call open: then it is refused by 3
  pub side_barred : (w : Side) (c : Call) → side_step w c ≡ cond (barred p w c) (stepped (solo p w) (refused STAGE)) (step f (solo p w) c)
  unfolding step guarded
  side_barred w (writing c) = sheet w (is_shut p.first.stage) (is_shut p.second.stage) refl refl
    where
      sheet : (w : Side) (x y : Bool) → is_shut p.first.stage ≡ x → is_shut p.second.stage ≡ y → side_step w (writing c) ≡ cond (barred p w (writing c)) (stepped (solo p w) (refused STAGE)) (step f (solo p w) (writing c))
      sheet First true true h k = rw (h, k)
      sheet First true false h k = rw (h, k)
      sheet First false true h k = rw (h, k)
      sheet First false false h k = rw (h, k)
      sheet Second true true h k = rw (h, k)
      sheet Second true false h k = rw (h, k)
      sheet Second false y h k = rw h
  side_barred w (setting c) = solo_is w (setting c) refl
  side_barred w (stepping c) = solo_is w (stepping c) refl
  side_barred w (closing c) = solo_is w (closing c) refl
  side_barred w (closing_stepped c) = solo_is w (closing_stepped c) refl
  side_barred w abandon = solo_is w abandon refl
  side_barred w (reading c) = solo_is w (reading c) refl

  -- a sheet change comes to the same through either side
  pub replies_agree : (v w : Side) (c : Call) → on_sheet c ≡ true → (side_step v c).reply ≡ (side_step w c).reply
  replies_agree v w (writing c) h = stepped_reply (solo p v) (solo p w) (pair_outcome f p w (writing c))
  replies_agree v w (setting c) h = absurd (two_ways h refl)
  replies_agree v w (stepping c) h = absurd (two_ways h refl)
  replies_agree v w (closing c) h = absurd (two_ways h refl)
  replies_agree v w (closing_stepped c) h = absurd (two_ways h refl)
  replies_agree v w abandon h = absurd (two_ways h refl)
  replies_agree v w (reading c) h = absurd (two_ways h refl)

  -- ---- WHAT A CALL LEAVES OF EACH SIDE

  sheet_left : (v : Side) (c : Call) → on_sheet c ≡ false → (pair_step f p v c).pair.sheet ≡ p.sheet
  sheet_left v c h =
      ap (λ (t : Stepped). t.filter.sheet) (on_is v c ∙ solo_is v c h)
      ∙ step_cases f (solo p v) c (λ t. t.sheet ≡ p.sheet) refl (λ d o g n. own_sheet (solo p v) c d h o)

  written : (w : Side) (c : Call) → on_sheet c ≡ true → solo (pair_step f p (other w) c).pair w ≡ (side_step w c).filter
  unfolding pair_step
  written w (writing c) h = other_written w c (pair_outcome f p w (writing c))
  written w (setting c) h = absurd (two_ways h refl)
  written w (stepping c) h = absurd (two_ways h refl)
  written w (closing c) h = absurd (two_ways h refl)
  written w (closing_stepped c) h = absurd (two_ways h refl)
  written w abandon h = absurd (two_ways h refl)
  written w (reading c) h = absurd (two_ways h refl)

  track_kept : (w : Side) (c : Call) → on_sheet c ≡ false → track_at (pair_step f p (other w) c).pair w ≡ track_at p w
  unfolding pair_step
  track_kept w c h = other_kept w c (pair_outcome f p (other w) c) h

  pub other_unreached : (w : Side) (c : Call) → on_sheet c ≡ false → solo (pair_step f p (other w) c).pair w ≡ solo p w
  other_unreached w c h = ap₂ filter (sheet_left (other w) c h) (track_kept w c h)

  pub reached : (v : Side) (c : Call) (w : Side) → reaches v c w ≡ true → solo (pair_step f p v c).pair w ≡ (side_step w c).filter
  reached First c First h = ap (λ (t : Stepped). t.filter) (on_is First c)
  reached First c Second h = written Second c h
  reached Second c First h = written First c h
  reached Second c Second h = ap (λ (t : Stepped). t.filter) (on_is Second c)

  pub unreached : (v : Side) (c : Call) (w : Side) → reaches v c w ≡ false → solo (pair_step f p v c).pair w ≡ solo p w
  unreached First c First h = absurd (two_ways refl h)
  unreached First c Second h = other_unreached Second c h
  unreached Second c First h = other_unreached First c h
  unreached Second c Second h = absurd (two_ways refl h)

  -- ---- refused and taken

  -- A REFUSED CALL CHANGES NOTHING
  pub refused_whole : (w : Side) (c : Call) → (pair_step f p w c).reply.refusal.number ≢ 0 → (pair_step f p w c).pair ≡ p
  unfolding pair_step
  refused_whole w c = go (pair_outcome f p w c)
    where
      go : (o : Outcome Done) → (stepped (solo p w) o).reply.refusal.number ≢ 0 → leaves c p w o ≡ p
      go (refused r) n = refl
      go (accepted d) n = absurd (n refl)

  -- taken, it is the solo call
  pub taken_solo : (w : Side) (c : Call) → (side_step w c).reply.refusal.number ≡ 0 → side_step w c ≡ step f (solo p w) c
  taken_solo w c z = side_barred w c ∙ go (barred p w c) (ap (λ (t : Stepped). t.reply.refusal.number) (sym (side_barred w c)) ∙ z)
    where
      go : (b : Bool) → (cond b (stepped (solo p w) (refused STAGE)) (step f (solo p w) c)).reply.refusal.number ≡ 0 → cond b (stepped (solo p w) (refused STAGE)) (step f (solo p w) c) ≡ step f (solo p w) c
      go true h = absurd (omega arith)
      go false h = refl
