-- A side's open call struck up to its abandon, in the customer's words: with all the calls that reach that side; the partner's other calls stay. Assumes nothing.
use mathlib.Core.Path.{◌≡◌, refl, sym, ap, ◌∙◌, subst, fun_ext}
use mathlib.Core.Bool.{Bool, true, false, cond}
use mathlib.Core.List.{List, [], ◌∷◌, ◌++◌}
use lib.Ieee.{Format}
use Rattle.filter.specs.Types.{Filter}
use Rattle.filter.specs.Asked.{in_range}
use Rattle.filter.specs.Filters.{is_shut, abandoned}
use Rattle.filter.specs.Calls.{SetCall, Call, setting, abandon}
use Rattle.pairs.specs.declared.Pair.{Pair}
use Rattle.pairs.specs.declared.Side.{Side}
use Rattle.pairs.specs.declared.Side.TheVariants.{First, Second}
use Rattle.pairs.specs.Pairs.{track_at, solo, on_sheet, pair_step}
use Rattle.demands.specs.PairRuns.{same, SideCall, by, reaches, Striking, nobody, updated, PairStruck, call_kept, refused_struck, open_struck, own_struck, abandon_struck, pair_ran, OpenThrough, unreaching}
use Rattle.demands.proofs.Rows.{two_ways}
use Rattle.demands.proofs.PairExactly.{open_refuses}
use Rattle.demands.proofs.PairStriking.{same_is, own_moved, open_pair}
use Rattle.demands.proofs.PairSteps.{unreached, refused_whole}
use Rattle.demands.proofs.Leftover.{opens, abandon_open}

updated_own : (w : Side) (t : Bool) (b : Striking) → updated w t b w ≡ t
updated_own First t b = refl
updated_own Second t b = refl

updated_back : (w v : Side) → updated w false (updated w true nobody) v ≡ nobody v
updated_back First First = refl
updated_back First Second = refl
updated_back Second First = refl
updated_back Second Second = refl

module _ (f : Format) (w : Side) where
  open_now : (p : Pair) (ts : List SideCall) → OpenThrough f w p ts → is_shut (track_at p w).stage ≡ false
  open_now p [] h = h
  open_now p (t ∷ ts) h = h.0

  -- a call that doesn't reach w may stay
  clear : (v : Side) (c : Call) → reaches v c w ≡ false → (u : Side) → reaches v c u ≡ true → updated w true nobody u ≡ false
  clear v c n u h = go (same w u) refl
    where
      go : (b : Bool) → same w u ≡ b → cond (same w u) true false ≡ false
      go true e = let d = same_is w u e in absurd (two_ways (rw (← d) at h) n)
      go false e = rw e

  -- one call of those meanwhile
  meanwhile : (p : Pair) (t : SideCall) (ds es : List SideCall) {cs : List SideCall} → is_shut (track_at p w).stage ≡ false → is_shut (track_at (pair_step f p t.side t.call).pair w).stage ≡ false
      → PairStruck f (updated w true nobody) (pair_step f p t.side t.call).pair cs (ds ++ es) → PairStruck f (updated w true nobody) p (t ∷ cs) (cond (reaches t.side t.call w) ds (t ∷ ds) ++ es)
  meanwhile p t ds es {cs} h i k = go (same t.side w) (on_sheet t.call) refl refl
    where
      go : (a b : Bool) → same t.side w ≡ a → on_sheet t.call ≡ b → PairStruck f (updated w true nobody) p (t ∷ cs) (cond (reaches t.side t.call w) ds (t ∷ ds) ++ es)
      go true b e s =
          let d = sym (same_is t.side w e) in
          rw e (own_struck (subst (λ (v : Side). updated w true nobody v ≡ true) d (updated_own w true nobody)) (subst (λ (v : Side). is_shut (track_at (pair_step f p t.side t.call).pair v).stage ≡ false) d i) k)
      go false true e s = rw (e, s) (refused_struck (open_refuses f p t.side w t.call s h) k)
      go false false e s = rw (e, s) (call_kept (clear t.side t.call (rw (e, s))) k)

  module _ (cs ds : List SideCall) where
    through : (p : Pair) (mid : List SideCall) → OpenThrough f w p mid → PairStruck f nobody (pair_ran f p (mid ++ (by w abandon ∷ []))) cs ds
        → PairStruck f (updated w true nobody) p (mid ++ (by w abandon ∷ cs)) (unreaching w mid ++ ds)
    unfolding pair_ran
    through p [] h k = abandon_struck (updated_own w true nobody) (subst (λ (b : Striking). PairStruck f b (pair_step f p w abandon).pair cs ds) (sym (fun_ext (updated_back w))) k)
    through p (t ∷ ts) h k = meanwhile p t (unreaching w ts) ds h.0 (open_now _ ts h.1) (through (pair_step f p t.side t.call).pair ts h.1 k)

    -- AN OPEN CALL STRUCK UP TO ITS ABANDON
    pub opening_struck : (p : Pair) (c : SetCall) (mid : List SideCall) → is_shut (track_at p w).stage ≡ true → OpenThrough f w (pair_step f p w (setting c)).pair mid
        → PairStruck f nobody (pair_ran f p (by w (setting c) ∷ mid ++ (by w abandon ∷ []))) cs ds → PairStruck f nobody p (by w (setting c) ∷ mid ++ (by w abandon ∷ cs)) (unreaching w mid ++ ds)
    unfolding pair_ran
    opening_struck p c mid h o k = open_struck refl h (open_now _ mid o) (through (pair_step f p w (setting c)).pair mid o k)

  -- ---- and the side is as it was, in every bit but scratch

  -- a call after which the open call is still open changes nothing but scratch of its side
  left : (p : Pair) (t : SideCall) → is_shut (track_at p w).stage ≡ false → is_shut (track_at (pair_step f p t.side t.call).pair w).stage ≡ false → abandoned (solo (pair_step f p t.side t.call).pair w) ≡ abandoned (solo p w)
  left p t h i = go (same t.side w) (on_sheet t.call) refl refl
    where
      go : (a b : Bool) → same t.side w ≡ a → on_sheet t.call ≡ b → abandoned (solo (pair_step f p t.side t.call).pair w) ≡ abandoned (solo p w)
      go true b e s =
          let d = same_is t.side w e in
          let q = (pair_step f p t.side t.call).pair in
          subst (λ (v : Side). abandoned (solo q v) ≡ abandoned (solo p v)) d (open_pair f p t.side t.call (subst (λ (v : Side). is_shut (track_at p v).stage ≡ false) (sym d) h) (subst (λ (v : Side). is_shut (track_at q v).stage ≡ false) (sym d) i)).0
      go false true e s = ap (λ (q : Pair). abandoned (solo q w)) (refused_whole f p t.side t.call (open_refuses f p t.side w t.call s h))
      go false false e s = ap abandoned (unreached f p t.side t.call w (rw (e, s)))

  all_left : (p : Pair) (mid : List SideCall) → OpenThrough f w p mid → abandoned (solo (pair_ran f p mid) w) ≡ abandoned (solo p w)
  unfolding pair_ran
  all_left p [] h = refl
  all_left p (t ∷ ts) h = all_left (pair_step f p t.side t.call).pair ts h.1 ∙ left p t h.0 (open_now _ ts h.1)

  still_open : (p : Pair) (mid : List SideCall) → OpenThrough f w p mid → is_shut (track_at (pair_ran f p mid) w).stage ≡ false
  unfolding pair_ran
  still_open p [] h = h
  still_open p (t ∷ ts) h = still_open (pair_step f p t.side t.call).pair ts h.1

  ran_append : (p : Pair) (cs ds : List SideCall) → pair_ran f p (cs ++ ds) ≡ pair_ran f (pair_ran f p cs) ds
  unfolding pair_ran
  ran_append p [] ds = refl
  ran_append p (t ∷ ts) ds = ran_append (pair_step f p t.side t.call).pair ts ds

  pub side_restored : (p : Pair) (c : SetCall) (mid : List SideCall) → is_shut (track_at p w).stage ≡ true → OpenThrough f w (pair_step f p w (setting c)).pair mid → solo (pair_ran f p (by w (setting c) ∷ mid ++ (by w abandon ∷ []))) w ≡ abandoned (solo p w)
  unfolding pair_ran
  side_restored p c mid h st =
      let q = (pair_step f p w (setting c)).pair in
      let m = own_moved f p w (setting c) refl in
      let o = opens f (solo p w) (setting c) h (ap (λ (s : Filter). is_shut s.track.stage) (sym m) ∙ open_now q mid st) in
      let r = all_left q mid st ∙ ap abandoned m in
      ap (λ (z : Pair). solo z w) (ran_append q mid (by w abandon ∷ [])) ∙ own_moved f (pair_ran f q mid) w abandon refl
      ∙ abandon_open f (solo (pair_ran f q mid) w) (still_open q mid st) (ap (λ (s : Filter). in_range 1 8 s.sheet.n) r ∙ o.1) ∙ r ∙ o.0
