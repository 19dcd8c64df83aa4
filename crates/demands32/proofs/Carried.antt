-- The calls, runs and filters of f32 are those of `demands` at binary32: so what holds there over the format holds here. And none of them ever keeps an image. Assumes nothing.
use Prim.Native.Nat.{ℕ}
use mathlib.Core.Path.{◌≡◌, refl, sym, ap, ◌∙◌, subst}
use mathlib.Core.List.{List, [], ◌∷◌, ◌++◌, map, map-append}
use lib.Ieee.{Float, binary32}
use Rattle.floats.specs.Refusal.{or}
use Rattle.sigma.specs.Weights.{Params}
use Rattle.filter.specs.Types.{Track, Filter}
use Rattle.filter.specs.Filters.{nothing_kept, Writing, q_set, params_set, kinds_set, Setting, x_set, p_set, opened_prediction, opened_correction, opened_prediction_stepped, opened_correction_stepped, Change, marked, set, track_after}
use Rattle.filter.specs.Calls as calls
use Rattle.filter.specs.Steps.{step}
use Rattle.filter.specs.New.{empty, from, new_asks, new_of}
use Rattle.demands.specs.Rows.{IsFlat, IsSave}
use Rattle.demands.specs.Runs.{Told, tells, told as told_at, ran_to as ran_to_at, StaysOpen as StaysOpenAt, Struck as StruckAt, none_left as none_at, call_kept as kept_at, refused_struck as refused_at, opening_struck as opening_at, rest as rest_at}
use Rattle.demands.specs.Sound.{Reached as ReachedAt, made as made_at, further as further_at, Yielded as YieldedAt, fresh_made as fresh_at, stepped_on as stepped_at, put_at_will as at_will_at}
use Rattle.demands.proofs.Passed.{by_cases}
use Rattle.demands.proofs.Table.{Own}
use Rattle.demands.proofs.Leftover.{step_cases}
use Rattle.demands32.specs.Calls.{close_prediction, close_correction, read_x, read_p, read_q, read_points, read_params, read_stale, Call, writing, setting, closing, abandon, reading, as_call}
use Rattle.demands32.specs.Runs.{step32, new32, told, ran_to, StaysOpen, Struck, none_left, call_kept, refused_struck, opening_struck, rest, Reached, made, further, FlatReached, first_reached, called, closed_flat, Yielded, fresh_made, stepped_on, put_at_will}

-- ---- nothing is kept at f32, no close is flat, and nothing is saved

-- a change of the sheet, or of a track with nothing open, keeps nothing where nothing was kept
marked_keeps_nothing : (t : Track) (c : Writing) → t.kept ≡ nothing_kept → (marked t c).kept ≡ nothing_kept
marked_keeps_nothing t (q_set v) h = h
marked_keeps_nothing t (params_set v) h = h
marked_keeps_nothing t (kinds_set v) h = h

set_keeps_nothing : (t : Track) (c : Setting) → t.kept ≡ nothing_kept → (set t c).kept ≡ nothing_kept
set_keeps_nothing t (x_set v) h = h
set_keeps_nothing t (p_set v) h = h
set_keeps_nothing t (opened_prediction d) h = refl
set_keeps_nothing t (opened_correction d) h = refl
set_keeps_nothing t (opened_prediction_stepped d) h = refl
set_keeps_nothing t (opened_correction_stepped d) h = refl

-- so does every change that an f32 call makes, by the sorts of calls
change_keeps_nothing : (t : Track) (c : Call) (d : Change) → Own (as_call c) d → t.kept ≡ nothing_kept → (track_after t d).kept ≡ nothing_kept
change_keeps_nothing t (writing c) d o h = rw o.1 (marked_keeps_nothing t o.0 h)
change_keeps_nothing t (setting c) d o h = rw o.1 (set_keeps_nothing t o.0 h)
change_keeps_nothing t (closing c) d o h = rw o.1
change_keeps_nothing t abandon d o h = rw o
change_keeps_nothing t (reading c) d o h = rw o h

-- a call of the f32 filter on a filter that keeps nothing leaves one that keeps nothing, and so does New
pub step_keeps_nothing : (s : Filter) (c : Call) → s.track.kept ≡ nothing_kept → (step32 s c).filter.track.kept ≡ nothing_kept
step_keeps_nothing s c h = step_cases binary32 s (as_call c) (λ t. t.track.kept ≡ nothing_kept) h (λ d o g n. change_keeps_nothing s.track c d o h)

pub new_keeps_nothing : (n : ℕ) (x p q : List Float) (params : Params) → (new32 n x p q params).filter.track.kept ≡ nothing_kept
unfolding new_of
new_keeps_nothing n x p q params = by_cases (λ o. (or empty o).track.kept ≡ nothing_kept) (λ r. refl) binary32 (new_asks n (from x p ∷ []) q params) _ (λ h. refl)

-- nor does a flat close keep anything
pub flat_keeps_nothing : (s : Filter) (m : ℕ) (z r observed : List Float) → s.track.kept ≡ nothing_kept → (step binary32 s (calls.closing (calls.close_correction_flat m z r observed))).filter.track.kept ≡ nothing_kept
flat_keeps_nothing s m z r observed h = step_cases binary32 s (calls.closing (calls.close_correction_flat m z r observed)) (λ t. t.track.kept ≡ nothing_kept) h (λ d o g n. closed_keeps_nothing d o)
  where
    closed_keeps_nothing : (d : Change) → Own (calls.closing (calls.close_correction_flat m z r observed)) d → (track_after s.track d).kept ≡ nothing_kept
    closed_keeps_nothing d o = rw o.1

-- so no filter that New and f32 calls reach keeps an image
pub reached_keeps_nothing : {s : Filter} → Reached s → s.track.kept ≡ nothing_kept
reached_keeps_nothing (made n x p q params) = new_keeps_nothing n x p q params
reached_keeps_nothing (further {s = s} y c) = step_keeps_nothing s c (reached_keeps_nothing y)

pub flat_reached_keeps_nothing : {s : Filter} → FlatReached s → s.track.kept ≡ nothing_kept
flat_reached_keeps_nothing (first_reached y) = reached_keeps_nothing y
flat_reached_keeps_nothing (called {s = s} y c) = step_keeps_nothing s c (flat_reached_keeps_nothing y)
flat_reached_keeps_nothing (closed_flat {s = s} y m z r observed) = flat_keeps_nothing s m z r observed (flat_reached_keeps_nothing y)

-- no f32 call is a flat close, either way
pub none_flat : (c : Call) → IsFlat (as_call c) → ⊥
none_flat (writing c) w = elim w [ ]
none_flat (setting c) w = elim w [ ]
none_flat (closing (close_prediction v)) w = elim w [ ]
none_flat (closing (close_correction m z r kinds observed)) w = elim w [ ]
none_flat abandon w = elim w [ ]
none_flat (reading c) w = elim w [ ]

-- and none is save
pub none_saves : (c : Call) → IsSave (as_call c) → ⊥
none_saves (writing c) w = elim w [ ]
none_saves (setting c) w = elim w [ ]
none_saves (closing c) w = elim w [ ]
none_saves abandon w = elim w [ ]
none_saves (reading (read_x b)) w = elim w [ ]
none_saves (reading (read_p b)) w = elim w [ ]
none_saves (reading (read_q b)) w = elim w [ ]
none_saves (reading (read_points b)) w = elim w [ ]
none_saves (reading read_params) w = elim w [ ]
none_saves (reading read_stale) w = elim w [ ]

-- ---- runs and filters

-- what a run tells, and where it ends
pub told_carried : (s : Filter) (cs : List Call) → told s cs ≡ told_at binary32 s (map as_call cs)
unfolding told told_at
told_carried s [] = refl
told_carried s (c ∷ cs) = ap (λ (l : List Told). tells (step32 s c) ∷ l) (told_carried (step32 s c).filter cs)

ran_carried : (s : Filter) (cs : List Call) → ran_to s cs ≡ ran_to_at binary32 s (map as_call cs)
unfolding ran_to ran_to_at
ran_carried s [] = refl
ran_carried s (c ∷ cs) = ran_carried (step32 s c).filter cs

-- the filters that the demands speak of
pub reached_carried : {s : Filter} → Reached s → ReachedAt binary32 s
reached_carried (made n x p q params) = made_at n x p q params
reached_carried (further y c) = further_at (reached_carried y) (as_call c)

pub flat_reached_carried : {s : Filter} → FlatReached s → ReachedAt binary32 s
flat_reached_carried (first_reached y) = reached_carried y
flat_reached_carried (called y c) = further_at (flat_reached_carried y) (as_call c)
flat_reached_carried (closed_flat y m z r observed) = further_at (flat_reached_carried y) (calls.closing (calls.close_correction_flat m z r observed))

pub yielded_carried : {s : Filter} → Yielded s → YieldedAt binary32 s
yielded_carried (fresh_made n x p q params) = fresh_at n x p q params
yielded_carried (stepped_on y c) = stepped_at (yielded_carried y) (as_call c)
yielded_carried (put_at_will t y a) = at_will_at t (yielded_carried y) a

-- ---- calls struck out

-- a call open now and after each of these calls
pub stays_carried : (s : Filter) (cs : List Call) → StaysOpen s cs → StaysOpenAt binary32 s (map as_call cs)
stays_carried s [] h = h
stays_carried s (c ∷ cs) h = (h.0, stays_carried (step32 s c).filter cs h.1)

-- an open with everything up to its abandon, and the filter after it
to_abandon : (c : Call) (mid : List Call) → map as_call (c ∷ mid ++ (abandon ∷ [])) ≡ as_call c ∷ map as_call mid ++ (calls.abandon ∷ [])
to_abandon c mid = map-append as_call (c ∷ mid) (abandon ∷ [])

pub abandoned_carried : (s : Filter) (c : Call) (mid : List Call) → ran_to s (c ∷ mid ++ (abandon ∷ [])) ≡ ran_to_at binary32 s (as_call c ∷ map as_call mid ++ (calls.abandon ∷ []))
abandoned_carried s c mid = ran_carried s (c ∷ mid ++ (abandon ∷ [])) ∙ ap (ran_to_at binary32 s) (to_abandon c mid)

-- a list struck here is struck so there, and the rest tells the same
pub record Carried (s : Filter) (cs ds : List calls.Call) (l : List Told) : Type 0 where
  pub struck : StruckAt binary32 s cs ds
  pub same : rest_at binary32 struck ≡ l

pub struck_carried : {s : Filter} {cs ds : List Call} (k : Struck s cs ds) → Carried s (map as_call cs) (map as_call ds) (rest k)
unfolding rest rest_at
struck_carried none_left = record { struck = none_at; same = refl }
struck_carried (call_kept {s = s} {c = c} k) =
    let h = struck_carried k in
    record { struck = kept_at h.struck; same = ap (λ (l : List Told). tells (step32 s c) ∷ l) h.same }
struck_carried (refused_struck r k) = let h = struck_carried k in record { struck = refused_at r h.struck; same = h.same }
struck_carried (opening_struck {s = s} c mid {cs = cs} {ds = ds} sh st k) =
    let h = subst (λ (t : Filter). Carried t (map as_call cs) (map as_call ds) (rest k)) (abandoned_carried s c mid) (struck_carried k) in
    let whole = map-append as_call (c ∷ mid ++ (abandon ∷ [])) cs ∙ ap (λ (l : List calls.Call). l ++ map as_call cs) (to_abandon c mid) in
    subst (λ (l : List calls.Call). Carried s l (map as_call ds) (rest k)) (sym whole)
    (record { struck = opening_at (as_call c) (map as_call mid) sh (stays_carried (step32 s c).filter mid st) h.struck; same = h.same })
