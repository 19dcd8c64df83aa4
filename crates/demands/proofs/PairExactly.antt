-- When a call on a pair is refused, and New; what a sheet change does, whichever side it comes through. Assumes nothing.
use Prim.Native.Nat.{ℕ, ◌*◌, ◌<◌}
use native.Mathlib.Omega.{arith}
use mathlib.Core.Path.{◌≡◌, refl, sym, ap, ◌∙◌}
use mathlib.Core.Bool.{Bool, true, false, not, ◌&&◌, ◌||◌, cond, and-false}
use mathlib.Core.List.{List, []}
use lib.ListN.{take}
use mathlib.Core.Logic.{◌↔◌, ◌≢◌, ◌⊎◌, inl, inr, ⊎_elim}
use lib.Ieee.{Float, Format}
use Rattle.floats.specs.declared.Refusal.{Refusal}
use Rattle.floats.specs.declared.Refusal.TheVariants.{Size as SIZE, Stage as STAGE}
use Rattle.floats.specs.Refusal.{verdict, taken, Outcome, refused, accepted, refusal}
use Rattle.floats.proofs.Refusals.{number_above, number_of}
use Rattle.matrix.specs.Results.{finish, planned, run}
use Rattle.sigma.specs.Weights.{Params}
use Rattle.filter.specs.Filters.{is_shut, seen, writes, written, marked}
use Rattle.filter.specs.Calls.{SheetCall, set_q, set_params, set_kind, ReadCall, read_q, read_params, Call, writing, setting, stepping, closing, closing_stepped, abandon, reading, fits, Done, writing_of, plan}
use Rattle.filter.specs.Steps.{Reply, Stepped, stepped, step, params_read}
use Rattle.filter.specs.New.{empty}
use Rattle.filter.specs.Types.{Track}
use Rattle.pairs.specs.declared.Pair.{Pair}
use Rattle.pairs.specs.declared.Side.{Side}
use Rattle.pairs.specs.declared.Side.TheVariants.{First, Second}
use Rattle.pairs.specs.Pairs.{pair, track_at, solo, on_sheet, neither_open, pair_fits, pair_asks, pair_outcome, pair_after, leaves, PairStepped, pair_step}
use Rattle.pairs.specs.NewPair.{empty_pair, new_pair_asks, new_pair_of, new_pair_answer}
use Rattle.demands.specs.Rows.{here, OutOfRange, Cause, stage, size, short, form, stale, fresh, kind, param, met, Applies, rank, Due}
use Rattle.demands.specs.Rows as Row
use Rattle.demands.specs.Settings.{sheet_marks}
use Rattle.demands.specs.PairRuns.{other}
use Rattle.stepped.proofs.Seen.{fits_seen}
use Rattle.demands.proofs.Rows.{two_ways}
use Rattle.demands.proofs.Exactly.{one_of, unchanged, stepped_told, plan_ends, guarded_exactly, guarded_taken, no_first}
use Rattle.demands.proofs.Passed.{both, by_cases, ran_finish}
use Rattle.demands.proofs.Table.{stage_exactly, states_first}
use Rattle.demands.proofs.Accepted.{taken_step}
use Rattle.demands.proofs.PairSteps.{solo_is, replies_agree, reply_is, reached, refused_whole, side_barred}

shut_side : (p : Pair) (w : Side) → neither_open p ≡ true → is_shut (track_at p w).stage ≡ true
shut_side p First h = (both {a = is_shut p.first.stage} h).0
shut_side p Second h = (both {a = is_shut p.first.stage} h).1

module _ (f : Format) (p : Pair) (w : Side) where
  -- EXACTLY WHEN
  module _ (c : Call) where
    told_is : (pair_step f p w c).reply.refusal ≡ refusal (pair_outcome f p w c)
    unfolding pair_step
    told_is = stepped_told (solo p w) (pair_outcome f p w c)

    pub pair_exactly : (r : Refusal) → ((pair_step f p w c).reply.refusal ≡ verdict r) ↔ Due f (pair_asks p w c) (planned (plan f (seen (solo p w)) c)) r
    pair_exactly r = rw told_is (guarded_exactly f (pair_asks p w c) (planned (plan f (seen (solo p w)) c)) (run (plan f (seen (solo p w)) c)) (plan_ends (plan f (seen (solo p w)) c)) r)

    pub pair_taken : ((pair_step f p w c).reply.refusal ≡ taken) ↔ ((d : Cause) → Applies f (pair_asks p w c) (planned (plan f (seen (solo p w)) c)) d → ⊥)
    pair_taken = rw told_is (guarded_taken f (pair_asks p w c) (planned (plan f (seen (solo p w)) c)) (run (plan f (seen (solo p w)) c)) (plan_ends (plan f (seen (solo p w)) c)))

    pub pair_ends : ((pair_step f p w c).reply.refusal ≡ taken) ⊎ ((r : Refusal) × ((pair_step f p w c).reply.refusal ≡ verdict r))
    pair_ends = rw told_is (one_of (pair_outcome f p w c))

    -- what is refused hands out nothing
    pub pair_refused : (pair_step f p w c).reply.refusal.number ≢ 0 → ((pair_step f p w c).reply.given ≡ []) × ((pair_step f p w c).reply.stale ≡ true) × ((pair_step f p w c).reply.bytes ≡ [])
    unfolding pair_step
    pair_refused n = let u = unchanged (solo p w) (pair_outcome f p w c) n in (u.1, u.2, u.3)

    -- 1 for n outside 1 to 8
    pub size_first : OutOfRange (record { value = p.sheet.n; from = 1; to = 8 }) → pair_fits p w c ≡ true → (pair_step f p w c).reply.refusal ≡ verdict SIZE
    size_first o h = (pair_exactly SIZE).1 (record { cause = size; gives_it = refl; applies = here o; no_earlier = early })
      where
        early : (d : Cause) → rank d < 1 → Applies f (pair_asks p w c) (planned (plan f (seen (solo p w)) c)) d → ⊥
        early stage l x = two_ways h x
        early size l x = absurd (omega arith)
        early short l x = absurd (omega arith)
        early form l x = absurd (omega arith)
        early stale l x = absurd (omega arith)
        early fresh l x = absurd (omega arith)
        early (Row.number s i) l x = absurd (omega arith)
        early kind l x = absurd (omega arith)
        early param l x = absurd (omega arith)
        early (met r) l x = absurd (omega arith)

  module _ (c : SheetCall) where
    -- A SHEET CHANGE while neither side has a call open is the solo call,
    unbarred : neither_open p ≡ true → stepped (solo p w) (pair_outcome f p w (writing c)) ≡ step f (solo p w) (writing c)
    unbarred h = side_barred f p w (writing c) ∙ ap (λ (b : Bool). cond (not b) (stepped (solo p w) (refused STAGE)) (step f (solo p w) (writing c))) (shut_side p (other w) h)

    -- and gets 3 exactly while either has;
    pub sheet_stage : ((pair_step f p w (writing c)).reply.refusal ≡ verdict STAGE) ↔ (neither_open p ≡ false)
    sheet_stage = (λ e. go (neither_open p) refl e, λ h. (pair_exactly (writing c) STAGE).1 (record { cause = stage; gives_it = refl; applies = h; no_earlier = λ d l x. absurd (omega arith) }))
      where
        go : (b : Bool) → neither_open p ≡ b → (pair_step f p w (writing c)).reply.refusal ≡ verdict STAGE → neither_open p ≡ false
        go false h e = h
        go true h e = absurd (two_ways (shut_side p w h) ((stage_exactly f (solo p w) (writing c)).0 (ap (λ (t : Stepped). t.reply.refusal) (sym (unbarred h)) ∙ ap (λ (r : Reply). r.refusal) (sym (reply_is f p w (writing c))) ∙ e)))

    pub either_open : ((pair_step f p w (writing c)).reply.refusal ≡ verdict STAGE) ↔ ((is_shut p.first.stage ≡ false) ⊎ (is_shut p.second.stage ≡ false))
    either_open = (λ e. one (is_shut p.first.stage) (is_shut p.second.stage) (sheet_stage.0 e), λ h. sheet_stage.1 (⊎_elim (λ e. rw e) (λ e. rw e (and-false (is_shut p.first.stage))) h))
      where
        one : (a b : Bool) → (a && b) ≡ false → (a ≡ false) ⊎ (b ≡ false)
        one true b e = inr e
        one false b e = inl refl

    -- accepted, it writes the sheet and marks the tracks;
    pub sheet_written : (pair_step f p w (writing c)).reply.refusal.number ≡ 0 → let u = writing_of p.sheet c in (pair_step f p w (writing c)).pair ≡ pair (written p.sheet u) (marked p.first u) (marked p.second u)
    unfolding pair_step run
    sheet_written = by_cases P (λ r z. absurd (omega (arith, number_above r))) f (pair_asks p w (writing c)) (run (plan f (seen (solo p w)) (writing c))) (λ h z. made w)
      where
        P : Outcome Done → Type 0
        P o = (stepped (solo p w) o).reply.refusal.number ≡ 0 → let u = writing_of p.sheet c in leaves (writing c) p w o ≡ pair (written p.sheet u) (marked p.first u) (marked p.second u)

        made : (v : Side) → let u = writing_of p.sheet c in pair_after (writing c) p v (writes u) ≡ pair (written p.sheet u) (marked p.first u) (marked p.second u)
        made First = refl
        made Second = refl

    pub sheet_marked : (pair_step f p w (writing c)).reply.refusal.number ≡ 0 → (v : Side) → (track_at (pair_step f p w (writing c)).pair v).stale ≡ (sheet_marks c || (track_at p v).stale)
    sheet_marked z v = ap (λ (q : Pair). (track_at q v).stale) (sheet_written z) ∙ at v
      where
        marking : (c : SheetCall) (t : Track) → (marked t (writing_of p.sheet c)).stale ≡ (sheet_marks c || t.stale)
        marking (set_q v) t = refl
        marking (set_params v) t = refl
        marking (set_kind i k) t = refl

        at : (v : Side) → let u = writing_of p.sheet c in (track_at (pair (written p.sheet u) (marked p.first u) (marked p.second u)) v).stale ≡ (sheet_marks c || (track_at p v).stale)
        at First = marking c p.first
        at Second = marking c p.second

-- so through w it does to v what the same call does to v alone
module _ (f : Format) (p : Pair) (c : SheetCall) where
  left : (w v : Side) → solo (pair_step f p w (writing c)).pair v ≡ (stepped (solo p v) (pair_outcome f p v (writing c))).filter
  left First First = reached f p First (writing c) First refl
  left First Second = reached f p First (writing c) Second refl
  left Second First = reached f p Second (writing c) First refl
  left Second Second = reached f p Second (writing c) Second refl

  pub sheet_solo : is_shut p.first.stage ≡ true → is_shut p.second.stage ≡ true → (w v : Side) → ((pair_step f p w (writing c)).reply ≡ (step f (solo p v) (writing c)).reply) × (solo (pair_step f p w (writing c)).pair v ≡ (step f (solo p v) (writing c)).filter)
  sheet_solo h k w v =
      let e = unbarred f p v c (rw (h, k)) in
      (reply_is f p w (writing c) ∙ replies_agree f p w v (writing c) refl ∙ ap (λ (t : Stepped). t.reply) e, left w v ∙ ap (λ (t : Stepped). t.filter) e)

-- 3, of any call
pub stage_of : (f : Format) (p : Pair) (w : Side) (c : Call) → ((pair_step f p w c).reply.refusal ≡ verdict STAGE) ↔ (pair_fits p w c ≡ false)
stage_of f p w (writing c) = sheet_stage f p w c
stage_of f p w (setting c) = rw (reply_is f p w (setting c), solo_is f p w (setting c) refl) (stage_exactly f (solo p w) (setting c))
stage_of f p w (stepping c) = rw (reply_is f p w (stepping c), solo_is f p w (stepping c) refl, fits_seen (solo p w) (stepping c)) (stage_exactly f (solo p w) (stepping c))
stage_of f p w (closing_stepped c) = rw (reply_is f p w (closing_stepped c), solo_is f p w (closing_stepped c) refl, fits_seen (solo p w) (closing_stepped c)) (stage_exactly f (solo p w) (closing_stepped c))
stage_of f p w (closing c) = rw (reply_is f p w (closing c), solo_is f p w (closing c) refl) (stage_exactly f (solo p w) (closing c))
stage_of f p w abandon = rw (reply_is f p w abandon, solo_is f p w abandon refl) (stage_exactly f (solo p w) abandon)
stage_of f p w (reading c) = rw (reply_is f p w (reading c), solo_is f p w (reading c) refl) (stage_exactly f (solo p w) (reading c))

-- so a sheet change is refused while a side has a call open
pub open_refuses : (f : Format) (p : Pair) (v w : Side) (c : Call) → on_sheet c ≡ true → is_shut (track_at p w).stage ≡ false → (pair_step f p v c).reply.refusal.number ≢ 0
open_refuses f p v w c s h z = let n = (stage_of f p v c).1 (rw s (one_open w h)) in omega (arith, number_of n, z)
  where
    one_open : (u : Side) → is_shut (track_at p u).stage ≡ false → neither_open p ≡ false
    one_open First k = rw k
    one_open Second k = rw k (and-false (is_shut p.first.stage))

-- a sheet change is the same whichever side it comes through
pub sheet_either : (f : Format) (p : Pair) (c : SheetCall) → pair_step f p First (writing c) ≡ pair_step f p Second (writing c)
unfolding pair_step
sheet_either f p c = go (pair_outcome f p First (writing c))
  where
    at : Side → Outcome Done → PairStepped
    at w o = record { pair = leaves (writing c) p w o; reply = (stepped (solo p w) o).reply }

    go : (o : Outcome Done) → at First o ≡ at Second o
    go (refused r) = refl
    go (accepted d) = refl

-- both sides read one sheet
module _ (f : Format) (p : Pair) (w : Side) where
  read_as : (c : ReadCall) (d : Done) → plan f (seen (solo p w)) (reading c) ≡ finish d → (pair_step f p w (reading c)).reply.refusal.number ≡ 0 → (pair_step f p w (reading c)).reply ≡ (stepped (solo p w) (accepted d)).reply
  read_as c d is z =
      let e = reply_is f p w (reading c) ∙ ap (λ (t : Stepped). t.reply) (solo_is f p w (reading c) refl) in
      e ∙ ap (λ (t : Stepped). t.reply) (taken_step f (solo p w) (reading c) d (rw is (ran_finish _ _ refl)) (ap (λ (r : Reply). r.refusal.number) (sym e) ∙ z))

  pub reads_q : (b : List Float) → (pair_step f p w (reading (read_q b))).reply.refusal.number ≡ 0 → (pair_step f p w (reading (read_q b))).reply.given ≡ take (p.sheet.n * p.sheet.n) p.sheet.q
  reads_q b z = ap (λ (r : Reply). r.given) (read_as (read_q b) _ refl z)

  pub reads_params : (pair_step f p w (reading read_params)).reply.refusal.number ≡ 0 → (params_read (pair_step f p w (reading read_params)).reply).params ≡ p.sheet.params
  reads_params z = ap (λ (r : Reply). (params_read r).params) (read_as read_params _ refl z)

-- ON THE EMPTY PAIR each side answers as the empty filter
module _ (f : Format) where
  on_empty_step : (w : Side) (c : Call) → (pair_step f empty_pair w c).reply ≡ (step f empty c).reply
  on_empty_step First c = reply_is f empty_pair First c ∙ ap (λ (t : Stepped). t.reply) (side_barred f empty_pair First c ∙ ap (λ (b : Bool). cond b (stepped empty (refused STAGE)) (step f empty c)) (and-false (on_sheet c)))
  on_empty_step Second c = reply_is f empty_pair Second c ∙ ap (λ (t : Stepped). t.reply) (side_barred f empty_pair Second c ∙ ap (λ (b : Bool). cond b (stepped empty (refused STAGE)) (step f empty c)) (and-false (on_sheet c)))

  empty_refused : (c : Call) → (step f empty c).reply.refusal.number ≢ 0
  empty_refused c z = go (fits c empty) refl
    where
      go : (b : Bool) → fits c empty ≡ b → ⊥
      go true h = let e = states_first f empty c (inl (omega arith)) h in omega (arith, number_of e, z)
      go false h = let e = (stage_exactly f empty c).1 h in omega (arith, number_of e, z)

  pub on_empty : (w : Side) (c : Call) → ((pair_step f empty_pair w c).reply ≡ (step f empty c).reply) × ((pair_step f empty_pair w c).pair ≡ empty_pair)
  on_empty w c = let e = on_empty_step w c in (e, refused_whole f empty_pair w c (λ z. empty_refused c (ap (λ (r : Reply). r.refusal.number) (sym e) ∙ z)))

-- NEW
module _ (f : Format) (n : ℕ) (x₁ p₁ x₂ p₂ q : List Float) (params : Params) where
  pub new_pair_exactly : (r : Refusal) → ((new_pair_answer f n x₁ p₁ x₂ p₂ q params).refusal ≡ verdict r) ↔ Due f (new_pair_asks n x₁ p₁ x₂ p₂ q params) [] r
  unfolding new_pair_of
  new_pair_exactly r = guarded_exactly f (new_pair_asks n x₁ p₁ x₂ p₂ q params) [] (accepted _) no_first r

  pub new_pair_taken : ((new_pair_answer f n x₁ p₁ x₂ p₂ q params).refusal ≡ taken) ↔ ((d : Cause) → Applies f (new_pair_asks n x₁ p₁ x₂ p₂ q params) [] d → ⊥)
  unfolding new_pair_of
  new_pair_taken = guarded_taken f (new_pair_asks n x₁ p₁ x₂ p₂ q params) [] (accepted _) no_first
