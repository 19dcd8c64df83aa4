-- What one side can notice of the other, by what stands on the sheet: over any run a side tells what its track tells that meets the sheet's contents, the marks and the refusal. Assumes nothing.
use Prim.Native.Nat.{ℕ, zero, suc}
use native.Mathlib.Omega.{arith}
use mathlib.Core.Path.{◌≡◌, refl, ap, ap₂, ◌∙◌}
use mathlib.Core.Bool.{Bool, true, false, ◌||◌, cond, and-false}
use mathlib.Core.List.{List, [], ◌∷◌, map}
use mathlib.Core.Logic.{◌≢◌}
use lib.Ieee.{Format}
use Rattle.floats.specs.declared.Refusal.TheVariants.{Stage as STAGE}
use Rattle.floats.specs.Refusal.{refused}
use Rattle.filter.specs.Types.{Track}
use Rattle.filter.specs.Types.{Filter}
use Rattle.filter.specs.Filters.{filter, is_shut, written, marked}
use Rattle.filter.specs.Calls.{SheetCall, set_q, set_params, set_kind, Call, writing, setting, stepping, closing, closing_stepped, abandon, reading, writing_of}
use Rattle.filter.specs.Steps.{Stepped, stepped, step}
use Rattle.pairs.specs.declared.Pair.{Pair}
use Rattle.pairs.specs.declared.Side.{Side}
use Rattle.pairs.specs.declared.Side.TheVariants.{First, Second}
use Rattle.pairs.specs.Pairs.{pair, track_at, solo, on_sheet, pair_step}
use Rattle.demands.specs.Runs.{Told, tells, told}
use Rattle.demands.specs.Settings.{sheet_marks}
use Rattle.demands.specs.PairRuns.{other, same, SideCall, by, on, pair_tells, pair_told, of_side, barred, Noticed, marks_by, remarked, notices, meeting_told}
use Rattle.demands.proofs.PairSteps.{on_is, side_barred, unreached, refused_whole}
use Rattle.demands.proofs.PairExactly.{sheet_written}

-- ---- marks

marked_is : (c : SheetCall) (t : Track) (p : Pair) → marked t (writing_of p.sheet c) ≡ remarked (sheet_marks c) t
marked_is (set_q v) t p = refl
marked_is (set_params v) t p = refl
marked_is (set_kind i k) t p = refl

remarked_twice : (m b : Bool) (t : Track) → remarked b (remarked m t) ≡ remarked (m || b) t
remarked_twice true true t = refl
remarked_twice true false t = refl
remarked_twice false true t = refl
remarked_twice false false t = refl

module _ (f : Format) where
  -- ---- what the partner's call leaves of a track: its mark

  by_number : (c : SheetCall) (r : ℕ) (s t : Track) → (r ≡ 0 → t ≡ remarked (sheet_marks c) s) → (r ≢ 0 → t ≡ s) → t ≡ remarked (marks_by (writing c) r) s
  by_number c zero s t made left = made refl
  by_number c (suc r) s t made left = left (λ e. omega arith)

  module _ (p : Pair) (v w : Side) (e : same v w ≡ false) where
    other_track : (c : Call) → solo (pair_step f p v c).pair w ≡ solo p w → track_at (pair_step f p v c).pair w ≡ track_at p w
    other_track c d = ap (λ (s : Filter). s.track) d

    partner_marks : (c : Call) → track_at (pair_step f p v c).pair w ≡ remarked (marks_by c (pair_step f p v c).reply.refusal.number) (track_at p w)
    partner_marks (writing c) =
        by_number c (pair_step f p v (writing c)).reply.refusal.number (track_at p w) (track_at (pair_step f p v (writing c)).pair w)
        (λ z. ap (λ (q : Pair). track_at q w) (sheet_written f p v c z) ∙ at w) (λ n. ap (λ (q : Pair). track_at q w) (refused_whole f p v (writing c) n))
      where
        at : (w : Side) → let u = writing_of p.sheet c in track_at (pair (written p.sheet u) (marked p.first u) (marked p.second u)) w ≡ remarked (sheet_marks c) (track_at p w)
        at First = marked_is c p.first p
        at Second = marked_is c p.second p
    partner_marks (setting c) = other_track (setting c) (unreached f p v (setting c) w (rw e))
    partner_marks (stepping c) = other_track (stepping c) (unreached f p v (stepping c) w (rw e))
    partner_marks (closing_stepped c) = other_track (closing_stepped c) (unreached f p v (closing_stepped c) w (rw e))
    partner_marks (closing c) = other_track (closing c) (unreached f p v (closing c) w (rw e))
    partner_marks abandon = other_track abandon (unreached f p v abandon w (rw e))
    partner_marks (reading c) = other_track (reading c) (unreached f p v (reading c) w (rw e))

  -- ---- a run, with the mark m so far

  abbrev meets : Filter → Bool → Call → Stepped
  meets s b c = cond b (stepped s (refused STAGE)) (step f s c)

  module _ (p : Pair) (m : Bool) (t : Track) (c : Call) where
    mine : (w : Side) → track_at p w ≡ remarked m t → (hs : List Noticed) (ts : List Told) → ts ≡ meeting_told f (track_at (pair_step f p w c).pair w) hs
        → tells (on w (pair_step f p w c)) ∷ ts ≡ meeting_told f t (record { call = c; sheet = p.sheet; mark = m; turned = barred p w c } ∷ hs)
    unfolding meeting_told
    mine w e hs ts i =
        let d = on_is f p w c ∙ side_barred f p w c ∙ ap (λ (s : Track). meets (filter p.sheet s) (barred p w c) c) e in
        ap₂ ◌∷◌ (ap tells d) (i ∙ ap (λ (u : Stepped). meeting_told f u.filter.track hs) d)

    theirs : (v w : Side) → same v w ≡ false → track_at p w ≡ remarked m t → track_at (pair_step f p v c).pair w ≡ remarked (m || marks_by c (pair_step f p v c).reply.refusal.number) t
    theirs v w n e = let b = marks_by c (pair_step f p v c).reply.refusal.number in partner_marks p v w n c ∙ ap (remarked b) e ∙ remarked_twice m b t

    at_call : (v w : Side) → track_at p w ≡ remarked m t → (ks : List SideCall) → let u = pair_step f p v c in
        ((b : Bool) (s : Track) → track_at u.pair w ≡ remarked b s → of_side w (pair_told f u.pair ks) ≡ meeting_told f s (notices f w b u.pair ks))
        → cond (same v w) (tells (on v u) ∷ of_side w (pair_told f u.pair ks)) (of_side w (pair_told f u.pair ks))
        ≡ meeting_told f t (cond (same v w) (record { call = c; sheet = p.sheet; mark = m; turned = barred p w c } ∷ notices f w false u.pair ks) (notices f w (m || marks_by c u.reply.refusal.number) u.pair ks))
    at_call First First e ks ih = mine First e _ _ (ih false _ refl)
    at_call First Second e ks ih = ih _ t (theirs First Second refl e)
    at_call Second First e ks ih = ih _ t (theirs Second First refl e)
    at_call Second Second e ks ih = mine Second e _ _ (ih false _ refl)

  run_noticed : (w : Side) (m : Bool) (p : Pair) (t : Track) (cs : List SideCall) → track_at p w ≡ remarked m t → of_side w (pair_told f p cs) ≡ meeting_told f t (notices f w m p cs)
  unfolding of_side pair_told pair_tells notices meeting_told
  run_noticed w m p t [] e = refl
  run_noticed w m p t (k ∷ ks) e = at_call p m t k.call k.side w e ks (λ b s d. run_noticed w b (pair_step f p k.side k.call).pair s ks d)

  pub noticed : (w : Side) (p : Pair) (cs : List SideCall) → of_side w (pair_told f p cs) ≡ meeting_told f (track_at p w) (notices f w false p cs)
  noticed w p cs = run_noticed w false p (track_at p w) cs refl

  -- ---- a side whose partner has nothing open and makes no call

  partner_stage : (p : Pair) (w v : Side) (c : Call) → same v w ≡ false → is_shut (track_at (pair_step f p v c).pair w).stage ≡ is_shut (track_at p w).stage
  partner_stage p w v c e = ap (λ (t : Track). is_shut t.stage) (partner_marks p v w e c)

  pub left_alone : (w : Side) (p : Pair) (cs : List Call) → is_shut (track_at p (other w)).stage ≡ true → map (λ t. t.told) (pair_told f p (map (by w) cs)) ≡ told f (solo p w) cs
  unfolding pair_told pair_tells told
  left_alone w p [] h = refl
  left_alone w p (c ∷ cs) h =
      let n : barred p w c ≡ false = rw h (and-false (on_sheet c)) in
      let d = on_is f p w c ∙ side_barred f p w c ∙ ap (λ (b : Bool). meets (solo p w) b c) n in
      let q = (pair_step f p w c).pair in
      ap₂ ◌∷◌ (ap tells d) (left_alone w q cs (partner_stage p (other w) w c (apart w) ∙ h) ∙ ap (λ (t : Stepped). told f t.filter cs) d)
    where
      apart : (w : Side) → same w (other w) ≡ false
      apart First = refl
      apart Second = refl
