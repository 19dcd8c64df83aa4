-- Nothing left over counts: a run on two alike filters tells the same; and striking refused calls, or an open with everything up to its abandon, changes none of the rest.
-- No law here goes by the calls: a step is a change worked out from what is seen, and the laws go by the changes. Assumes nothing.
use mathlib.Core.Path.{◌≡◌, refl, sym, ap, ap₂, ◌∙◌, subst}
use mathlib.Core.Bool.{Bool, true, false, cond}
use mathlib.Core.List.{List, [], ◌∷◌, ◌++◌}
use lib.Ieee.{Format}
use Rattle.floats.specs.Numbers.{all_finite}
use Rattle.floats.specs.Refusal.{Outcome, refused, accepted}
use Rattle.matrix.specs.Results.{run}
use Rattle.filter.specs.Types.{Sheet}
use Rattle.filter.specs.Types.{Track}
use Rattle.filter.specs.Types.{Filter}
use Rattle.filter.specs.declared.Stage.{Stage}
use Rattle.filter.specs.declared.Stage.TheVariants.{Shut, Predicting, Correcting, PredictingStepped, CorrectingStepped}
use Rattle.filter.specs.Asked.{within, in_range}
use Rattle.filter.specs.Filters.{filter, is_shut, seen_of, seen, Writing, q_set, params_set, kinds_set, Setting, x_set, p_set, opened_prediction, opened_correction, opened_prediction_stepped, opened_correction_stepped, Change, writes, sets, closes, keeps, abandons, reads, marked, set, shut, sheet_after, track_after, changed, abandoned}
use Rattle.filter.specs.Calls.{Call, writing, setting, stepping, closing, closing_stepped, abandon, reading, fits, asks, Done, plan}
use Rattle.filter.specs.Steps.{outcome, Reply, stepped, step}
use Rattle.stepped.proofs.Seen.{fits_seen}
use Rattle.demands.specs.Runs.{tells, told, ran_to, AlikeTracks, Alike, StaysOpen, Struck, none_left, call_kept, refused_struck, opening_struck, rest}
use Rattle.demands.proofs.Rows.{two_ways}
use Rattle.demands.proofs.Exactly.{refused_nothing}
use Rattle.demands.proofs.Passed.{Pass, by_cases, run_cases}
use Rattle.demands.proofs.Table.{Own, regular}

-- ---- a filter as seen

cond_twice : {A : Type 0} (b : Bool) (x y : A) → cond b x (cond b x y) ≡ cond b x y
cond_twice true x y = refl
cond_twice false x y = refl

cond_again : {A : Type 0} (b : Bool) (x y : A) → cond b (cond b x y) y ≡ cond b x y
cond_again true x y = refl
cond_again false x y = refl

seen_twice : (s : Filter) → seen (seen s) ≡ seen s
seen_twice s = simp (cond_twice, cond_again)

-- each change reads of a filter what is seen
marked_seen : (t : Track) (c : Writing) → seen_of (marked t c) ≡ seen_of (marked (seen_of t) c)
marked_seen t (q_set v) = simp (cond_twice, cond_again)
marked_seen t (params_set v) = simp (cond_twice, cond_again)
marked_seen t (kinds_set v) = simp (cond_twice, cond_again)

set_seen : (t : Track) (c : Setting) → seen_of (set t c) ≡ seen_of (set (seen_of t) c)
set_seen t (x_set v) = simp (cond_twice, cond_again)
set_seen t (p_set v) = simp (cond_twice, cond_again)
set_seen t (opened_prediction d) = simp cond_twice
set_seen t (opened_correction d) = simp cond_twice
set_seen t (opened_prediction_stepped d) = simp cond_twice
set_seen t (opened_correction_stepped d) = simp cond_twice

track_seen : (t : Track) (c : Change) → seen_of (track_after t c) ≡ seen_of (track_after (seen_of t) c)
track_seen t (writes c) = marked_seen t c
track_seen t (sets c) = set_seen t c
track_seen t (closes c) = refl
track_seen t (keeps k) = simp cond_twice
track_seen t abandons = simp cond_twice
track_seen t reads = simp (cond_twice, cond_again)

changed_seen : (s : Filter) (c : Change) → seen (changed s c) ≡ seen (changed (seen s) c)
changed_seen s c = ap (filter (sheet_after s.sheet c)) (track_seen s.track c)

pub alike_seen : (s t : Track) → AlikeTracks s t → seen_of s ≡ seen_of t
alike_seen s t a = simp (a.x, a.p, a.stale₁, a.stale₂, a.shut₁, a.shut₂)

-- ---- a step

pub stepped_reply : (s t : Filter) (o : Outcome Done) → (stepped s o).reply ≡ (stepped t o).reply
stepped_reply s t (refused r) = refl
stepped_reply s t (accepted d) = refl

stepped_seen : (s : Filter) (o : Outcome Done) → seen (stepped s o).filter ≡ seen (stepped (seen s) o).filter
stepped_seen s (refused r) = sym (seen_twice s)
stepped_seen s (accepted d) = changed_seen s d.change

module _ (f : Format) where
  step_reply : (s : Filter) (c : Call) → (step f s c).reply ≡ (step f (seen s) c).reply
  unfolding step
  step_reply s c = stepped_reply s (seen s) (outcome f (seen s) c) ∙ ap (λ (t : Filter). (stepped (seen s) (outcome f t c)).reply) (sym (seen_twice s))

  step_seen : (s : Filter) (c : Call) → seen (step f s c).filter ≡ seen (step f (seen s) c).filter
  unfolding step
  step_seen s c = stepped_seen s (outcome f (seen s) c) ∙ ap (λ (t : Filter). seen (stepped (seen s) (outcome f t c)).filter) (sym (seen_twice s))

  module _ (s t : Filter) (e : seen s ≡ seen t) (c : Call) where
    same_reply : (step f s c).reply ≡ (step f t c).reply
    same_reply = step_reply s c ∙ ap (λ (u : Filter). (step f u c).reply) e ∙ sym (step_reply t c)

    pub same_seen : seen (step f s c).filter ≡ seen (step f t c).filter
    same_seen = step_seen s c ∙ ap (λ (u : Filter). seen (step f u c).filter) e ∙ sym (step_seen t c)

    pub same_told : tells (step f s c) ≡ tells (step f t c)
    unfolding tells
    same_told = ap₂ (λ (r : Reply) (u : Filter). tells (record { filter = u; reply = r })) same_reply same_seen

  -- ---- a run

  same_run : (s t : Filter) → seen s ≡ seen t → (cs : List Call) → told f s cs ≡ told f t cs
  unfolding told
  same_run s t e [] = refl
  same_run s t e (c ∷ cs) = ap₂ ◌∷◌ (same_told s t e c) (same_run (step f s c).filter (step f t c).filter (same_seen s t e c) cs)

  -- NOTHING LEFT OVER COUNTS
  pub nothing_left_over : (s t : Filter) → Alike s t → (cs : List Call) → told f s cs ≡ told f t cs
  nothing_left_over s t a cs = same_run s t (ap₂ filter a.sheet (alike_seen s.track t.track a.track)) cs

-- ---- what is open

pub shut_is : (t : Stage) → is_shut t ≡ true → t ≡ Shut
shut_is Shut h = refl
shut_is Predicting h = absurd (two_ways h refl)
shut_is Correcting h = absurd (two_ways h refl)
shut_is PredictingStepped h = absurd (two_ways h refl)
shut_is CorrectingStepped h = absurd (two_ways h refl)

-- with nothing open, scratch is all that an abandoned filter differs in
pub abandoned_seen : (s : Filter) → is_shut s.track.stage ≡ true → seen (abandoned s) ≡ seen s
abandoned_seen s h = rw (shut_is s.track.stage h)

-- a change that opens something, where nothing was open, is one of the track alone; abandoned, it is undone
marked_shut : (t : Track) (c : Writing) → is_shut t.stage ≡ true → is_shut (marked t c).stage ≡ true
marked_shut t (q_set v) h = h
marked_shut t (params_set v) h = h
marked_shut t (kinds_set v) h = h

setting_abandoned : (t : Track) (c : Setting) → is_shut t.stage ≡ true → is_shut (set t c).stage ≡ false → shut (set t c) ≡ shut t
setting_abandoned t (x_set v) h k = absurd (two_ways h k)
setting_abandoned t (p_set v) h k = absurd (two_ways h k)
setting_abandoned t (opened_prediction d) h k = refl
setting_abandoned t (opened_correction d) h k = refl
setting_abandoned t (opened_prediction_stepped d) h k = refl
setting_abandoned t (opened_correction_stepped d) h k = refl

opened_abandoned : (s : Filter) (c : Change) → is_shut s.track.stage ≡ true → is_shut (changed s c).track.stage ≡ false → (abandoned (changed s c) ≡ abandoned s) × ((changed s c).sheet ≡ s.sheet)
opened_abandoned s (writes c) h k = absurd (two_ways (marked_shut s.track c h) k)
opened_abandoned s (sets c) h k = (ap (filter s.sheet) (setting_abandoned s.track c h k), refl)
opened_abandoned s (closes c) h k = absurd (two_ways refl k)
opened_abandoned s (keeps u) h k = absurd (two_ways h k)
opened_abandoned s abandons h k = absurd (two_ways refl k)
opened_abandoned s reads h k = absurd (two_ways h k)

-- a change of a call that fits, where something is open before and after it, is one of what is kept
open_unchanged : (s : Filter) (c : Call) (d : Change) → Own c d → fits c s ≡ true → is_shut s.track.stage ≡ false → is_shut (changed s d).track.stage ≡ false → abandoned (changed s d) ≡ abandoned s
open_unchanged s (writing c) d o g h k = absurd (two_ways g h)
open_unchanged s (setting c) d o g h k = absurd (two_ways g h)
open_unchanged s (stepping c) d o g h k = rw o.1
open_unchanged s (closing c) d o g h k = absurd (two_ways refl (rw o.1 at k))
open_unchanged s (closing_stepped c) d o g h k = absurd (two_ways refl (rw o.1 at k))
open_unchanged s abandon d o g h k = absurd (two_ways refl (rw o at k))
open_unchanged s (reading c) d o g h k = rw o

module _ (f : Format) (s : Filter) where
  -- of a step: what holds where it is refused, and of a change of the call's own sort once its line of the table is passed
  pub step_cases : (c : Call) (P : Filter → Type 0) → P s → ((d : Change) → Own c d → fits c s ≡ true → in_range 1 8 s.sheet.n ≡ true → P (changed s d)) → P (step f s c).filter
  unfolding step
  step_cases c P left made =
      let line = regular f (seen s) c in
      by_cases (λ o. P (stepped s o).filter) (λ r. left) f (asks (seen s) c) (run (plan f (seen s) c))
      (λ h.
      run_cases (λ (d : Done). Own c d.change) (λ o. P (stepped s o).filter) (λ r. left) (plan f (seen s) c) line.change
      (λ d o. made d.change o (sym (fits_seen s c) ∙ sym line.fitting ∙ h.fits) (subst (Pass within) line.states h.sizes).0))

  -- while a call is open, a call after which one still is changes nothing but scratch
  pub open_same : (c : Call) → is_shut s.track.stage ≡ false → is_shut (step f s c).filter.track.stage ≡ false → abandoned (step f s c).filter ≡ abandoned s
  open_same c h = step_cases c (λ t. is_shut t.track.stage ≡ false → abandoned t ≡ abandoned s) (λ k. refl) (λ d o g n k. open_unchanged s c d o g h k)

  -- a call that opens one, where none was open
  pub opens : (c : Call) → is_shut s.track.stage ≡ true → is_shut (step f s c).filter.track.stage ≡ false
      → (abandoned (step f s c).filter ≡ abandoned s) × (in_range 1 8 (step f s c).filter.sheet.n ≡ true)
  opens c h =
      step_cases c (λ t. is_shut t.track.stage ≡ false → (abandoned t ≡ abandoned s) × (in_range 1 8 t.sheet.n ≡ true)) (λ k. absurd (two_ways h k))
      (λ d o g n k. let e = opened_abandoned s d h k in (e.0, ap (λ (u : Sheet). in_range 1 8 u.n) e.1 ∙ n))

  -- abandon is taken where something is open
  pub abandon_open : is_shut s.track.stage ≡ false → in_range 1 8 s.sheet.n ≡ true → (step f s abandon).filter ≡ abandoned s
  unfolding step all_finite
  abandon_open h k = simp (h, k)

-- ---- striking

module _ (f : Format) where
  open_now : (s : Filter) (cs : List Call) → StaysOpen f s cs → is_shut s.track.stage ≡ false
  open_now s [] h = h
  open_now s (c ∷ cs) h = h.0

  stays_open : (s : Filter) (cs : List Call) → StaysOpen f s cs → is_shut (ran_to f s cs).track.stage ≡ false
  unfolding ran_to
  stays_open s [] h = h
  stays_open s (c ∷ cs) h = stays_open (step f s c).filter cs h.1

  stays_same : (s : Filter) (cs : List Call) → StaysOpen f s cs → abandoned (ran_to f s cs) ≡ abandoned s
  unfolding ran_to
  stays_same s [] h = refl
  stays_same s (c ∷ cs) h = stays_same (step f s c).filter cs h.1 ∙ open_same f s c h.0 (open_now (step f s c).filter cs h.1)

  pub ran_append : (s : Filter) (cs ds : List Call) → ran_to f s (cs ++ ds) ≡ ran_to f (ran_to f s cs) ds
  unfolding ran_to
  ran_append s [] ds = refl
  ran_append s (c ∷ cs) ds = ran_append (step f s c).filter cs ds

  -- AN OPEN CALL, ABANDONED: the filter is again, in every bit but scratch, what it was before; scratch is +0
  pub opening_abandoned : (s : Filter) (c : Call) (mid : List Call) → is_shut s.track.stage ≡ true → StaysOpen f (step f s c).filter mid → ran_to f s (c ∷ mid ++ (abandon ∷ [])) ≡ abandoned s
  unfolding ran_to
  opening_abandoned s c mid h st =
      let t = (step f s c).filter in
      let k = open_now t mid st in
      let o = opens f s c h k in
      let e = stays_same t mid st in
      ran_append t mid (abandon ∷ []) ∙ abandon_open f (ran_to f t mid) (stays_open t mid st) (ap (λ (z : Filter). in_range 1 8 z.sheet.n) e ∙ o.1) ∙ e ∙ o.0

  -- what the whole run on s tells at the calls that are not struck is what the struck run tells, on any filter that is seen alike
  struck_same : (t : Filter) {s : Filter} {cs ds : List Call} → seen s ≡ seen t → (k : Struck f s cs ds) → rest f k ≡ told f t ds
  unfolding rest told
  struck_same t e none_left = refl
  struck_same t e (call_kept {s = s} {c = c} k) = ap₂ ◌∷◌ (same_told f s t e c) (struck_same (step f t c).filter (same_seen f s t e c) k)
  struck_same t e (refused_struck {s = s} {c = c} r k) = struck_same t (ap seen (refused_nothing f s c r).0 ∙ e) k
  struck_same t e (opening_struck {s = s} c mid h st k) = struck_same t (ap seen (opening_abandoned s c mid h st) ∙ abandoned_seen s h ∙ e) k

  -- STRIKING CHANGES NONE OF THE REST
  pub striking : {s : Filter} {cs ds : List Call} (k : Struck f s cs ds) → rest f k ≡ told f s ds
  striking {s} k = struck_same s refl k
