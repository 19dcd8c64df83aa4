-- Document 02, A4: weld head and diver on one settings sheet. What a call on one side does to the other, and the three demands for pairs. Over every format; all but the last part over every pair. Assumes nothing.
use Prim.Native.Nat.{ℕ, ◌*◌}
use mathlib.Core.Path.{◌≡◌, refl, ap, ap₂, sym, ◌∙◌}
use mathlib.Core.Bool.{true, false, ◌||◌, cond}
use mathlib.Core.List.{List, [], ◌∷◌, ◌++◌, map}
use mathlib.Core.Logic.{◌↔◌, ◌≢◌, ◌⊎◌}
use lib.ListN.{take}
use lib.Ieee.{Float, Format}
use Rattle.floats.specs.declared.Slice.TheVariants.{State, Covariance, Noise, Lone}
use Rattle.floats.specs.declared.Refusal.{Refusal}
use Rattle.floats.specs.declared.Refusal.TheVariants.{Size as SIZE, Stage as STAGE}
use Rattle.floats.specs.Refusal.{verdict, taken, refused}
use Rattle.floats.specs.Numbers.{plus_zero, all_finite}
use Rattle.floats.specs.Fronts.{over}
use Rattle.matrix.specs.Results.{planned}
use Rattle.sigma.specs.Weights.{Params}
use Rattle.filter.specs.Types.{Track}
use Rattle.filter.specs.Types.{Filter}
use Rattle.filter.specs.Asked.{of_numbers, by_params}
use Rattle.filter.specs.Filters.{is_shut, seen, written, marked, abandoned}
use Rattle.filter.specs.Calls.{SheetCall, SetCall, read_q, read_params, Call, writing, setting, abandon, reading, writing_of, plan}
use Rattle.filter.specs.Steps.{Stepped, stepped, step, params_of, params_read, stale_read}
use Rattle.filter.specs.New.{empty, new_answer}
use Rattle.pairs.specs.declared.Pair.{Pair}
use Rattle.pairs.specs.declared.Side.{Side}
use Rattle.pairs.specs.declared.Side.TheVariants.{First, Second}
use Rattle.pairs.specs.Pairs.{pair, track_at, solo, on_sheet, pair_fits, pair_asks, PairStepped, pair_step, pair_answered}
use Rattle.pairs.specs.NewPair.{empty_pair, new_pair_asks, new_pair_answer}
use Rattle.demands.specs.Runs.{told}
use Rattle.demands.specs.Rows.{OutOfRange, searches, Cause, Applies, Due, Placed}
use Rattle.demands.specs.Sound.{Reached, Yielded, handed_out, Each}
use Rattle.demands.specs.Settings.{sheet_marks}
use Rattle.demands.specs.PairRuns.{other, SideCall, by, pair_told, pair_ran, of_side, own, barred, hears, alone_told, Noticed, notices, meeting_told, AlikePairs, nobody, PairStruck, pair_rest, OpenThrough, unreaching}
use Rattle.demands.specs.PairSound.{PairReached, PairYielded}
use Rattle.demands.proofs.Places.{placed_so}
use Rattle.demands.proofs.Table.{searches_so}
use Rattle.demands.proofs.PairSteps.{on_sheet_is, on_is, side_barred, other_unreached, refused_whole}
use Rattle.demands.proofs.PairRuns.{notice, alone_told_lem}
use Rattle.demands.proofs.PairNotice.{noticed, left_alone}
use Rattle.demands.proofs.PairStriking.{pair_left_over, pair_striking}
use Rattle.demands.proofs.PairExactly.{pair_ends, pair_exactly, pair_taken, pair_refused, size_first, either_open, sheet_solo, sheet_written, sheet_marked, stage_of, sheet_either, reads_q, reads_params, on_empty, new_pair_exactly, new_pair_taken}
use Rattle.demands.proofs.PairOpening.{opening_struck, side_restored}
use Rattle.demands.proofs.PairSound.{new_sides, new_empty, side_yielded, side_reached, pair_finite}

-- which calls change the sheet: those that set Q, the parameters or a kind, and no other
pub sheet_changes : (c : Call) → (on_sheet c ≡ true) ↔ ((d : SheetCall) × (c ≡ writing d))
sheet_changes = on_sheet_is

module _ (f : Format) where
  -- ---- One call, and with it demand 2

  module _ (p : Pair) where
    -- A call on a side is the solo call on sheet and side, in what it tells and in what it leaves of the side (so that what Demand1 says of places, Demand2 of numbers and EitherWay of stepped calls holds of it); but a sheet change while the partner has a call open is refused by 3.
    pub a_call_on_a_side : (w : Side) (c : Call) → let t = cond (barred p w c) (stepped (solo p w) (refused STAGE)) (step f (solo p w) c) in ((pair_step f p w c).reply ≡ t.reply) × (solo (pair_step f p w c).pair w ≡ t.filter)
    a_call_on_a_side w c = let e = on_is f p w c ∙ side_barred f p w c in (ap (λ (t : Stepped). t.reply) e, ap (λ (t : Stepped). t.filter) e)

    -- One that is no sheet change leaves the other side as it was in every bit.
    pub partner_untouched : (w : Side) (c : Call) → on_sheet c ≡ false → solo (pair_step f p w c).pair (other w) ≡ solo p (other w)
    partner_untouched First c h = other_unreached f p Second c h
    partner_untouched Second c h = other_unreached f p First c h

    module _ (c : SheetCall) where
      -- A sheet change gets 3 exactly while either side has a call open, before any other number;
      pub sheet_stage_when : (w : Side) → ((pair_step f p w (writing c)).reply.refusal ≡ verdict STAGE) ↔ ((is_shut p.first.stage ≡ false) ⊎ (is_shut p.second.stage ≡ false))
      sheet_stage_when w = either_open f p w c

      -- while neither has, it tells what the same call tells of either side alone, and does to each side what that does, refused or not;
      pub sheet_change_solo : is_shut p.first.stage ≡ true → is_shut p.second.stage ≡ true → (w v : Side) → ((pair_step f p w (writing c)).reply ≡ (step f (solo p v) (writing c)).reply) × (solo (pair_step f p w (writing c)).pair v ≡ (step f (solo p v) (writing c)).filter)
      sheet_change_solo = sheet_solo f p c

      -- accepted, it holds for both: it writes the sheet, and leaves both tracks as they were but for the mark,
      pub sheet_change : (w : Side) → (pair_step f p w (writing c)).reply.refusal.number ≡ 0 → let u = writing_of p.sheet c in (pair_step f p w (writing c)).pair ≡ pair (written p.sheet u) (marked p.first u) (marked p.second u)
      sheet_change w = sheet_written f p w c

      -- which parameters and kinds set on both, and Q on neither;
      pub sheet_change_marks : (w : Side) → (pair_step f p w (writing c)).reply.refusal.number ≡ 0 → (v : Side) → (track_at (pair_step f p w (writing c)).pair v).stale ≡ (sheet_marks c || (track_at p v).stale)
      sheet_change_marks w = sheet_marked f p w c

      -- and it is the same through either side, refused or not.
      pub either_side : pair_step f p First (writing c) ≡ pair_step f p Second (writing c)
      either_side = sheet_either f p c

    -- Both sides read one sheet: Q, and the parameters.
    pub q_read : (w : Side) (b : List Float) → (pair_step f p w (reading (read_q b))).reply.refusal.number ≡ 0 → (pair_step f p w (reading (read_q b))).reply.given ≡ take (p.sheet.n * p.sheet.n) p.sheet.q
    q_read = reads_q f p

    pub params_read_lem : (w : Side) → (pair_step f p w (reading read_params)).reply.refusal.number ≡ 0 → (params_read (pair_step f p w (reading read_params)).reply).params ≡ p.sheet.params
    params_read_lem = reads_params f p

    -- ---- Demand 1

    module _ (w : Side) (c : Call) where
      -- Any call on a side ends with 0 at place 0, or with a refusal's number at its place;
      pub a_result_or_a_refusal : ((pair_step f p w c).reply.refusal ≡ taken) ⊎ ((r : Refusal) × ((pair_step f p w c).reply.refusal ≡ verdict r))
      a_result_or_a_refusal = pair_ends f p w c

      -- a number at its place is given exactly when its row of the table applies there and no row before it in the order does (`pair_asks`: as on the filter of that side, but that a sheet change fits only while neither side has a call open),
      pub exactly_when : (r : Refusal) → ((pair_step f p w c).reply.refusal ≡ verdict r) ↔ Due f (pair_asks p w c) (planned (plan f (seen (solo p w)) c)) r
      exactly_when = pair_exactly f p w c

      -- and the call is taken exactly when no row applies.
      pub taken_when : ((pair_step f p w c).reply.refusal ≡ taken) ↔ ((d : Cause) → Applies f (pair_asks p w c) (planned (plan f (seen (solo p w)) c)) d → ⊥)
      taken_when = pair_taken f p w c

      -- What is searched is what that call searches on a filter, and a place that isn't 0 stands beside the same numbers.
      pub searched_by : (pair_asks p w c).inputs ≡ searches (seen (solo p w)) c
      searched_by = searches_so (seen (solo p w)) c

      pub no_other_place : Placed (pair_step f p w c).reply.refusal
      no_other_place = placed_so _ (pair_ends f p w c)

      -- So 3 is given exactly when the call doesn't fit what is open, and n outside 1 to 8 gets 1 from every call that 3 doesn't stop.
      pub stage_when : ((pair_step f p w c).reply.refusal ≡ verdict STAGE) ↔ (pair_fits p w c ≡ false)
      stage_when = stage_of f p w c

      pub size_when : OutOfRange (record { value = p.sheet.n; from = 1; to = 8 }) → pair_fits p w c ≡ true → (pair_step f p w c).reply.refusal ≡ verdict SIZE
      size_when = size_first f p w c

      -- A refused call changes nothing: not the sheet, not either side, not a lent buffer b.
      pub refused_changes_nothing : (pair_step f p w c).reply.refusal.number ≢ 0 → ((pair_step f p w c).pair ≡ p) × ((b : List Float) → over (pair_step f p w c).reply.given b ≡ b) × ((b : List ℕ) → over (pair_step f p w c).reply.bytes b ≡ b)
      refused_changes_nothing n = let r = pair_refused f p w c n in (refused_whole f p w c n, λ b. ap (λ (l : List Float). over l b) r.0, λ b. ap (λ (l : List ℕ). over l b) r.2)

      -- A refused reading of values answers +0, and stale.
      pub refused_reading : (pair_step f p w c).reply.refusal.number ≢ 0
          → ((params_read (pair_step f p w c).reply).params ≡ record { alpha = plus_zero; beta = plus_zero; kappa = plus_zero }) × ((stale_read (pair_step f p w c).reply).stale ≡ true)
      refused_reading n = let r = pair_refused f p w c n in (ap params_of r.0, r.1)

  -- The code hands a step's pair, number and place back as they are.
  pub handed_back : (t : PairStepped) → ((pair_answered t).pair ≡ t.pair) × ((pair_answered t).refusal ≡ t.reply.refusal)
  handed_back t = (refl, refl)

  -- New of a pair asks for 1 to 8 states, for five slices that are long enough, for finite numbers, x and P of the first, x and P of the second, Q and the parameters being searched in this order (each x is a state and each P a covariance, so 51 and 52 don't tell whose), and for parameters that pass 6;
  module _ (n : ℕ) (x₁ p₁ x₂ p₂ q : List Float) (params : Params) where
    pub new_asks_lem : new_pair_asks n x₁ p₁ x₂ p₂ q params ≡ record {
      fits = true;
      sizes = record { value = n; from = 1; to = 8 } ∷ [];
      lent = of_numbers x₁ n ∷ of_numbers p₁ (n * n) ∷ of_numbers x₂ n ∷ of_numbers p₂ (n * n) ∷ of_numbers q (n * n) ∷ [];
      formed = true;
      stale = false;
      fresh = false;
      inputs = record { name = State; numbers = take n x₁ } ∷ record { name = Covariance; numbers = take (n * n) p₁ } ∷ record { name = State; numbers = take n x₂ } ∷ record { name = Covariance; numbers = take (n * n) p₂ } ∷ record { name = Noise; numbers = take (n * n) q } ∷ record { name = Lone; numbers = params.alpha ∷ params.beta ∷ params.kappa ∷ [] } ∷ [];
      plain = [];
      params = by_params n params ∷ [];
    }
    new_asks_lem = refl

    -- each of its numbers at its place is given exactly when its row applies there and no row before it does, and it is taken exactly when none does;
    pub new_exactly_when : (r : Refusal) → ((new_pair_answer f n x₁ p₁ x₂ p₂ q params).refusal ≡ verdict r) ↔ Due f (new_pair_asks n x₁ p₁ x₂ p₂ q params) [] r
    new_exactly_when = new_pair_exactly f n x₁ p₁ x₂ p₂ q params

    pub new_taken_when : ((new_pair_answer f n x₁ p₁ x₂ p₂ q params).refusal ≡ taken) ↔ ((d : Cause) → Applies f (new_pair_asks n x₁ p₁ x₂ p₂ q params) [] d → ⊥)
    new_taken_when = new_pair_taken f n x₁ p₁ x₂ p₂ q params

    -- accepted, New accepts each start by itself too, and each side is the filter that it gives;
    pub new_gives : (new_pair_answer f n x₁ p₁ x₂ p₂ q params).refusal.number ≡ 0 → let p = (new_pair_answer f n x₁ p₁ x₂ p₂ q params).pair in
        (new_answer f n x₁ p₁ q params ≡ record { filter = solo p First; refusal = taken }) × (new_answer f n x₂ p₂ q params ≡ record { filter = solo p Second; refusal = taken })
    new_gives = new_sides f n q params x₁ p₁ x₂ p₂

    -- refused, both are empty.
    pub refused_new : (new_pair_answer f n x₁ p₁ x₂ p₂ q params).refusal.number ≢ 0 → (new_pair_answer f n x₁ p₁ x₂ p₂ q params).pair ≡ empty_pair
    refused_new = new_empty f n q params x₁ p₁ x₂ p₂

  -- Each side of the empty pair answers as the empty filter does; so a sheet change gets 1 there.
  pub empty_answers : (w : Side) (c : Call) → ((pair_step f empty_pair w c).reply ≡ (step f empty c).reply) × ((pair_step f empty_pair w c).pair ≡ empty_pair)
  empty_answers = on_empty f

  -- ---- What one side can notice of the other is exactly this: the sheet's contents, the marks set by a change, and the refusal of a sheet change while the other has a call open (PairExamples shows each of the three noticed)

  -- Over any run, what a side tells is what its track tells that meets, at each of its own calls, the sheet as it stands, the mark that the partner's changes have set since its last call, and 3 where the call is a sheet change and the partner has a call open.
  pub what_a_side_notices : (w : Side) (p : Pair) (cs : List SideCall) → of_side w (pair_told f p cs) ≡ meeting_told f (track_at p w) (notices f w false p cs)
  what_a_side_notices = noticed f

  -- So whatever else the partners are and are told, a side that starts from the same track and notices the same tells the same.
  pub nothing_else : (w : Side) (p q : Pair) (cs ds : List SideCall) → track_at p w ≡ track_at q w → notices f w false p cs ≡ notices f w false q ds → of_side w (pair_told f p cs) ≡ of_side w (pair_told f q ds)
  nothing_else w p q cs ds e h = noticed f w p cs ∙ ap₂ (λ (t : Track) (ks : List Noticed). meeting_told f t ks) e h ∙ sym (noticed f w q ds)

  -- The same by calls: what a side tells is what a filter alone tells that is given the side's own calls and, in their places, the partner's accepted sheet changes, and 3 to each sheet change of its own while the partner has a call open.
  pub as_a_filter_alone : (w : Side) (p : Pair) (cs : List SideCall) → of_side w (pair_told f p cs) ≡ alone_told f (solo p w) (hears f w p cs)
  as_a_filter_alone = notice f

  -- Such a filter, given calls of its own only, tells what any filter tells; and that is what a side tells whose partner has nothing open and makes no call.
  pub own_calls_only : (s : Filter) (cs : List Call) → alone_told f s (map own cs) ≡ told f s cs
  own_calls_only = alone_told_lem f

  pub partner_silent : (w : Side) (p : Pair) (cs : List Call) → is_shut (track_at p (other w)).stage ≡ true → map (λ t. t.told) (pair_told f p (map (by w) cs)) ≡ told f (solo p w) cs
  partner_silent = left_alone f

  -- ---- Demand 3

  -- Two pairs that agree on the sheet, all four sides stale with nothing open and alike in x and P, points, weights and scratch at will: any same calls tell the same.
  pub same_told : (p q : Pair) → AlikePairs p q → (cs : List SideCall) → pair_told f p cs ≡ pair_told f q cs
  same_told = pair_left_over f

  -- Striking refused calls, or a side's open with that side's calls up to its abandon and the sheet changes, by either side, refused meanwhile, changes none of the rest.
  pub same_rest : {p : Pair} {cs ds : List SideCall} (k : PairStruck f nobody p cs ds) → pair_rest f k ≡ pair_told f p ds
  same_rest k = pair_striking f k

  -- In particular an open of side w with every call up to its abandon that reaches w, its own and sheet changes; the partner's other calls stay. Of the calls cs after it more may be struck, which leaves ds.
  pub open_to_abandon : (w : Side) (cs ds : List SideCall) (p : Pair) (c : SetCall) (mid : List SideCall) → is_shut (track_at p w).stage ≡ true → OpenThrough f w (pair_step f p w (setting c)).pair mid
      → PairStruck f nobody (pair_ran f p (by w (setting c) ∷ mid ++ (by w abandon ∷ []))) cs ds → PairStruck f nobody p (by w (setting c) ∷ mid ++ (by w abandon ∷ cs)) (unreaching w mid ++ ds)
  open_to_abandon = opening_struck f

  -- For an open call, abandoned, leaves the sheet as it was, and the side in every bit but scratch, which is +0, whatever the partner has done meanwhile.
  pub abandon_restores : (w : Side) (p : Pair) (c : SetCall) (mid : List SideCall) → is_shut (track_at p w).stage ≡ true → OpenThrough f w (pair_step f p w (setting c)).pair mid → solo (pair_ran f p (by w (setting c) ∷ mid ++ (by w abandon ∷ []))) w ≡ abandoned (solo p w)
  abandon_restores = side_restored f

  -- ---- Every number is finite

  -- Each side of a pair that the demands speak of is a filter that they speak of, so what is proved of such filters, the invariant first, holds of the sides;
  pub sides_yielded : {p : Pair} → PairYielded f p → (w : Side) → Yielded f (solo p w)
  sides_yielded = side_yielded f

  pub sides_reached : {p : Pair} → PairReached f p → (w : Side) → Reached f (solo p w)
  sides_reached = side_reached f

  -- and every number handed out, and x and P of its side after every call, is finite.
  pub every_number_is_finite : (p : Pair) → PairYielded f p → (cs : List SideCall) → Each (λ t. all_finite (handed_out t.told) ≡ true) (pair_told f p cs)
  every_number_is_finite = pair_finite f
