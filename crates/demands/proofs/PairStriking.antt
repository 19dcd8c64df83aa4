-- Nothing left over counts on a pair: a run on two alike pairs tells the same; and striking refused calls, or a side's open with its calls up to its abandon, changes none of the rest.
-- The two runs are compared at each side of the pair: a side whose open call is being struck would, abandoned now, be seen as it stands in the other run. Assumes nothing.
use mathlib.Core.Path.{◌≡◌, refl, sym, ap, ap₂, ◌∙◌}
use mathlib.Core.Bool.{Bool, true, false, not, ◌&&◌, ◌||◌, cond}
use mathlib.Core.List.{List, [], ◌∷◌}
use lib.Ieee.{Format}
use Rattle.floats.specs.declared.Refusal.TheVariants.{Stage as STAGE}
use Rattle.floats.specs.Refusal.{refused}
use Rattle.filter.specs.Types.{Filter}
use Rattle.filter.specs.Asked.{in_range}
use Rattle.filter.specs.Filters.{filter, is_shut, seen, abandoned}
use Rattle.filter.specs.Calls.{SetCall, Call, setting, abandon}
use Rattle.filter.specs.Steps.{Stepped, stepped, step}
use Rattle.pairs.specs.declared.Pair.{Pair}
use Rattle.pairs.specs.declared.Side.{Side}
use Rattle.pairs.specs.declared.Side.TheVariants.{First, Second}
use Rattle.pairs.specs.Pairs.{track_at, solo, on_sheet, pair_step}
use Rattle.demands.specs.Runs.{Told, tells}
use Rattle.demands.specs.PairRuns.{other, same, SideCall, by, pair_tells, pair_told, barred, AlikePairs, reaches, Striking, nobody, updated, PairStruck, none_left, call_kept, refused_struck, open_struck, own_struck, abandon_struck, pair_rest}
use Rattle.demands.proofs.Rows.{two_ways}
use Rattle.demands.proofs.Leftover.{same_seen, same_told, alike_seen, abandoned_seen, open_same, opens, abandon_open}
use Rattle.demands.proofs.PairExactly.{open_refuses}
use Rattle.demands.proofs.PairSteps.{side_step, side_barred, on_is, solo_is, reached, unreached, refused_whole}

-- ---- two sides, of which the first's open call is being struck or not

abbrev Follows : Bool → Filter → Filter → Type 0
Follows false s t = seen s ≡ seen t
Follows true s t = (is_shut s.track.stage ≡ false) × (in_range 1 8 s.sheet.n ≡ true) × (seen (abandoned s) ≡ seen t)

abbrev Beside : Striking → Pair → Pair → Type 0
Beside b p q = (w : Side) → Follows (b w) (solo p w) (solo q w)

own_reached : (w : Side) (c : Call) → reaches w c w ≡ true
own_reached First c = refl
own_reached Second c = refl

pub same_is : (v w : Side) → same v w ≡ true → v ≡ w
same_is First First h = refl
same_is First Second h = absurd (two_ways h refl)
same_is Second First h = absurd (two_ways h refl)
same_is Second Second h = refl

sheet_reached : (w : Side) (c : Call) (v : Side) → on_sheet c ≡ true → reaches w c v ≡ true
sheet_reached w c v h = rw h (either (same w v))
  where
    either : (b : Bool) → (b || true) ≡ true
    either true = refl
    either false = refl

alike_beside : (p q : Pair) → AlikePairs p q → Beside nobody p q
alike_beside p q a First = ap₂ filter a.sheet (alike_seen p.first q.first a.first)
alike_beside p q a Second = ap₂ filter a.sheet (alike_seen p.second q.second a.second)

told_same : (s t : Filter) → seen s ≡ seen t → tells (stepped s (refused STAGE)) ≡ tells (stepped t (refused STAGE))
unfolding tells
told_same s t e = ap (λ (u : Filter). tells (stepped u (refused STAGE))) e

module _ (f : Format) where
  -- ---- a call that is kept

  module _ (p q : Pair) (w : Side) (c : Call) where
    barred_same : (on_sheet c ≡ true → seen (solo p (other w)) ≡ seen (solo q (other w))) → barred p w c ≡ barred q w c
    barred_same e = go (on_sheet c) e
      where
        go : (b : Bool) → (b ≡ true → seen (solo p (other w)) ≡ seen (solo q (other w))) → (b && not (is_shut (track_at p (other w)).stage)) ≡ (b && not (is_shut (track_at q (other w)).stage))
        go true d = ap (λ (s : Filter). not (is_shut s.track.stage)) (d refl)
        go false d = refl

    side_same : seen (solo p w) ≡ seen (solo q w) → barred p w c ≡ barred q w c → (tells (side_step f p w c) ≡ tells (side_step f q w c)) × (seen (side_step f p w c).filter ≡ seen (side_step f q w c).filter)
    side_same e d =
        let a = side_barred f p w c ∙ ap (λ (b : Bool). at b p) d in
        let z = sym (side_barred f q w c) in
        let m = go (barred q w c) in
        (ap tells a ∙ m.0 ∙ ap tells z, ap (λ (t : Stepped). seen t.filter) a ∙ m.1 ∙ ap (λ (t : Stepped). seen t.filter) z)
      where
        at : Bool → Pair → Stepped
        at b r = cond b (stepped (solo r w) (refused STAGE)) (step f (solo r w) c)

        go : (b : Bool) → (tells (at b p) ≡ tells (at b q)) × (seen (at b p).filter ≡ seen (at b q).filter)
        go true = (told_same (solo p w) (solo q w) e, e)
        go false = (same_told f (solo p w) (solo q w) e c, same_seen f (solo p w) (solo q w) e c)

  module _ (b : Striking) (p q : Pair) (beside : Beside b p q) (w : Side) (c : Call) (clear : (v : Side) → reaches w c v ≡ true → b v ≡ false) where
    seen_so : (v : Side) → reaches w c v ≡ true → seen (solo p v) ≡ seen (solo q v)
    seen_so v h = rw (clear v h) at (beside v)

    side_kept : (v : Side) → reaches w c v ≡ true → (tells (side_step f p v c) ≡ tells (side_step f q v c)) × (seen (side_step f p v c).filter ≡ seen (side_step f q v c).filter)
    side_kept v h = side_same p q v c (seen_so v h) (barred_same p q v c (λ s. seen_so (other v) (sheet_reached w c (other v) s)))

    kept_told : pair_tells f p (by w c) ≡ pair_tells f q (by w c)
    unfolding pair_tells
    kept_told = ap (λ (t : Told). record { side = w; told = t }) (ap tells (on_is f p w c) ∙ (side_kept w (own_reached w c)).0 ∙ ap tells (sym (on_is f q w c)))

    kept_beside : Beside b (pair_step f p w c).pair (pair_step f q w c).pair
    kept_beside v = go (reaches w c v) refl
      where
        go : (r : Bool) → reaches w c v ≡ r → Follows (b v) (solo (pair_step f p w c).pair v) (solo (pair_step f q w c).pair v)
        go true h = rw (clear v h) (ap seen (reached f p w c v h) ∙ (side_kept v h).1 ∙ ap seen (sym (reached f q w c v h)))
        go false h = rw (unreached f p w c v h, unreached f q w c v h) (beside v)

  -- ---- NOTHING LEFT OVER COUNTS

  run_same : (p q : Pair) → Beside nobody p q → (cs : List SideCall) → pair_told f p cs ≡ pair_told f q cs
  unfolding pair_told
  run_same p q e [] = refl
  run_same p q e (t ∷ ts) =
      let clear : (v : Side) → reaches t.side t.call v ≡ true → nobody v ≡ false = λ v h. refl in
      ap₂ ◌∷◌ (kept_told nobody p q e t.side t.call clear) (run_same (pair_step f p t.side t.call).pair (pair_step f q t.side t.call).pair (kept_beside nobody p q e t.side t.call clear) ts)

  pub pair_left_over : (p q : Pair) → AlikePairs p q → (cs : List SideCall) → pair_told f p cs ≡ pair_told f q cs
  pair_left_over p q a cs = run_same p q (alike_beside p q a) cs

  -- ---- a call that is struck

  module _ (p : Pair) (w : Side) where
    -- by side w, no sheet change: what the solo call leaves
    pub own_moved : (c : Call) → on_sheet c ≡ false → solo (pair_step f p w c).pair w ≡ (step f (solo p w) c).filter
    own_moved c h = reached f p w c w (own_reached w c) ∙ ap (λ (t : Stepped). t.filter) (solo_is f p w c h)

    -- by a side whose call is open and stays so, it changes nothing but scratch there, and leaves the other as it was
    pub open_pair : (c : Call) → is_shut (track_at p w).stage ≡ false → is_shut (track_at (pair_step f p w c).pair w).stage ≡ false
        → (abandoned (solo (pair_step f p w c).pair w) ≡ abandoned (solo p w)) × ((v : Side) → same w v ≡ false → solo (pair_step f p w c).pair v ≡ solo p v)
    open_pair c h k = go (on_sheet c) refl
      where
        go : (a : Bool) → on_sheet c ≡ a → (abandoned (solo (pair_step f p w c).pair w) ≡ abandoned (solo p w)) × ((v : Side) → same w v ≡ false → solo (pair_step f p w c).pair v ≡ solo p v)
        go true s = let r = refused_whole f p w c (open_refuses f p w w c s h) in (ap (λ (q : Pair). abandoned (solo q w)) r, λ v e. ap (λ (q : Pair). solo q v) r)
        go false s =
            let m = own_moved c s in
            (ap abandoned m ∙ open_same f (solo p w) c h (ap (λ (t : Filter). is_shut t.track.stage) (sym m) ∙ k), λ v e. unreached f p w c v (rw (e, s)))

    -- ---- beside another run

    module _ (b : Striking) (q : Pair) (beside : Beside b p q) where
      left_beside : (c : Call) → ((v : Side) → solo (pair_step f p w c).pair v ≡ solo p v) → Beside b (pair_step f p w c).pair q
      left_beside c e v = rw (e v) (beside v)

      -- of w alone: a call that is not on the sheet
      moved_beside : (c : Call) (t : Bool) → on_sheet c ≡ false → Follows t (solo (pair_step f p w c).pair w) (solo q w) → Beside (updated w t b) (pair_step f p w c).pair q
      moved_beside c t s o v = go (same w v) refl
        where
          go : (r : Bool) → same w v ≡ r → Follows (cond (same w v) t (b v)) (solo (pair_step f p w c).pair v) (solo q v)
          go true e = let d = same_is w v e in rw e (rw (← d) o)
          go false e = rw (e, unreached f p w c v (rw (e, s))) (beside v)

      opened_beside : (c : SetCall) → b w ≡ false → is_shut (track_at p w).stage ≡ true → is_shut (track_at (pair_step f p w (setting c)).pair w).stage ≡ false
          → Beside (updated w true b) (pair_step f p w (setting c)).pair q
      opened_beside c i h k =
          let m = own_moved (setting c) refl in
          let o = opens f (solo p w) (setting c) h (ap (λ (s : Filter). is_shut s.track.stage) (sym m) ∙ k) in
          let e : seen (solo p w) ≡ seen (solo q w) = rw i at (beside w) in
          moved_beside (setting c) true refl (k, rw m o.1, ap (λ (s : Filter). seen (abandoned s)) m ∙ ap seen o.0 ∙ abandoned_seen (solo p w) h ∙ e)

      open_still : b w ≡ true → is_shut (track_at p w).stage ≡ false
      open_still i = let t : Follows true (solo p w) (solo q w) = rw i at (beside w) in t.0

      -- a call of w's own while its call is open
      own_beside : (c : Call) → b w ≡ true → is_shut (track_at (pair_step f p w c).pair w).stage ≡ false → Beside b (pair_step f p w c).pair q
      own_beside c i o v = go (same w v) refl
        where
          go : (r : Bool) → same w v ≡ r → Follows (b v) (solo (pair_step f p w c).pair v) (solo q v)
          go true e =
              let d = same_is w v e in
              let t : Follows true (solo p w) (solo q w) = rw i at (beside w) in
              let m = (open_pair c t.0 o).0 in
              rw (← d, i) (o, ap (λ (s : Filter). in_range 1 8 s.sheet.n) m ∙ t.1, ap seen m ∙ t.2)
          go false e = rw ((open_pair c (open_still i) o).1 v e) (beside v)

      abandoned_beside : b w ≡ true → Beside (updated w false b) (pair_step f p w abandon).pair q
      abandoned_beside i =
          let t : Follows true (solo p w) (solo q w) = rw i at (beside w) in
          moved_beside abandon false refl (ap seen (own_moved abandon refl ∙ abandon_open f (solo p w) t.0 t.1) ∙ t.2)

  -- ---- STRIKING CHANGES NONE OF THE REST

  struck_same : {b : Striking} {p : Pair} {cs ds : List SideCall} (q : Pair) → Beside b p q → (k : PairStruck f b p cs ds) → pair_rest f k ≡ pair_told f q ds
  unfolding pair_rest pair_told
  struck_same q e (none_left h) = refl
  struck_same q e (call_kept {b = b} {p = p} {w = w} {c = c} h k) = ap₂ ◌∷◌ (kept_told b p q e w c h) (struck_same _ (kept_beside b p q e w c h) k)
  struck_same q e (refused_struck {b = b} {p = p} {w = w} {c = c} n k) = struck_same q (left_beside p w b q e c (λ v. ap (λ (r : Pair). solo r v) (refused_whole f p w c n))) k
  struck_same q e (open_struck {b = b} {p = p} {w = w} {c = c} i h o k) = struck_same q (opened_beside p w b q e c i h o) k
  struck_same q e (own_struck {b = b} {p = p} {w = w} {c = c} i o k) = struck_same q (own_beside p w b q e c i o) k
  struck_same q e (abandon_struck {b = b} {p = p} {w = w} i k) = struck_same q (abandoned_beside p w b q e i) k

  pub pair_striking : {p : Pair} {cs ds : List SideCall} (k : PairStruck f nobody p cs ds) → pair_rest f k ≡ pair_told f p ds
  pair_striking {p} k = struck_same p (λ w. refl) k
