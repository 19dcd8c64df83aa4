-- The invariant: New and load make it, every call keeps it, points, weights and scratch put at will keep it; and under it every number handed out is finite. Assumes nothing.
use Prim.Native.Nat.{ℕ, zero, suc, ◌+◌, ◌-◌, ◌*◌, ◌≤◌, zero-le}
use mathlib.Core.Path.{◌≡◌, refl, sym, ap, ◌∙◌}
use mathlib.Core.Bool.{Bool, true, false}
use mathlib.Core.List.{List, [], ◌∷◌, ◌++◌}
use native.Mathlib.Omega.{arith}
use borrow.Author.Tests.{leb-true}
use lib.Dec.{leb}
use lib.ListN.{length, take, drop, get_or, replicate, length-append, length-drop, length-replicate}
use lib.Seq.{length-take-le, drop_at}
use lib.Ieee.{Float, Format}
use lib.Ieee.Scale.{finite}
use Rattle.floats.specs.declared.Refusal.{Refusal}
use Rattle.floats.specs.declared.Refusal.TheVariants.{Short as SHORT}
use Rattle.floats.specs.Refusal.{Outcome, refused, accepted, or, unless}
use Rattle.floats.specs.Numbers.{zeros, all_finite}
use Rattle.floats.specs.Fronts.{over}
use Rattle.angles.specs.Kinds.{plain, half_of}
use Rattle.angles.specs.Kinds.{Kind}
use Rattle.pieces.specs.Bytes.{number_at, kind_at}
use Rattle.pieces.proofs.Laws.{length_read}
use Rattle.matrix.specs.Results.{run}
use Rattle.sigma.specs.Weights.{Params}
use Rattle.sigma.specs.Weights.{weights_pass}
use Rattle.sigma.specs.Draw.{point_numbers}
use Rattle.filter.specs.declared.Stage.{Stage}
use Rattle.filter.specs.declared.Stage.TheVariants.{PredictingStepped, CorrectingStepped}
use Rattle.filter.specs.Types.{Weighted}
use Rattle.filter.specs.Types.{Sheet}
use Rattle.filter.specs.Types.{Filter}
use Rattle.filter.specs.Asked.{by_params, by_kind, fit, every, guarded}
use Rattle.filter.specs.Filters.{filter, is_shut, is_stepped, seen, Writing, q_set, params_set, kinds_set, Setting, x_set, p_set, opened_prediction, opened_correction, opened_prediction_stepped, opened_correction_stepped, Change, writes, sets, closes, keeps, abandons, reads, with_drawn, changed}
use Rattle.filter.specs.Calls.{Call, halves, values_of, as_kinds, asks, Done, plan}
use Rattle.filter.specs.Steps.{outcome, stepped, step}
use Rattle.filter.specs.New.{fresh_sheet, fresh_track, empty, from, new_asks, sheet_from, track_from, new_of, new_answer}
use Rattle.filter.specs.Records.{numbers}
use Rattle.filter.specs.Load.{turn_inputs, states_in, numbers_in, each_kind, filter_in, load_asks, load_of, load_answer}
use Rattle.stepped.proofs.Seen.{stepped_open}
use Rattle.demands.specs.Runs.{tells, told, Alike}
use Rattle.demands.specs.Sound.{Filled, Keeps, Sound, Tidy, Reached, made, read, further, Yielded, fresh_made, loaded, stepped_on, put_at_will, handed_out, Each, end, and}
use Rattle.demands.proofs.Rows.{two_ways}
use Rattle.demands.proofs.Passed.{both, both_true, Pass, finite_in, Passed, by_cases, run_cases}
use Rattle.demands.proofs.Arrays.{all_both, drop_same, drop_zeros, filled_front, filled_zeros, filled_all, plain_past}
use Rattle.demands.proofs.Fine.{Fine, FineDone, in_range_lem, square_room, fine}

module _ (f : Format) where
  -- ---- New

  fresh_sound : (n : ℕ) (x p q : List Float) (params : Params) → n ≤ 8 → Filled n 8 x → Filled (n * n) 64 p → Filled (n * n) 64 q
      → all_finite (values_of params) ≡ true → (1 ≤ n → weights_pass f n params ≡ true) → Sound f (filter (fresh_sheet n q params) (fresh_track x p))
  unfolding all_finite
  fresh_sound n x p q params h fx fp fq a w = record {
    small = h;
    x = fx;
    p = fp;
    q = fq;
    params = a;
    passed = w;
    kinds = refl;
    turns = refl;
    eight = refl;
    past = λ i l. plain_past 8 i;
    current = λ e. absurd (two_ways refl e);
    drawn = λ e. absurd (two_ways refl e);
    drawn_from = λ e. absurd (two_ways refl e);
    kept = λ e. absurd (two_ways e refl);
  }

  empty_sound : Sound f empty
  unfolding all_finite
  empty_sound = fresh_sound 0 (zeros 8) (zeros 64) (zeros 64) _ zero-le (filled_zeros 0 8) (filled_zeros 0 64) (filled_zeros 0 64) refl (λ h. absurd (omega arith))

  -- on any sheet
  fresh_tidy : (s : Sheet) (x p : List Float) → Tidy (filter s (fresh_track x p))
  fresh_tidy s x p = record { points = filled_zeros (point_numbers s.n) 136; weights = filled_zeros (s.n + s.n + 1) 17; scratch_weights = λ e. refl; scratch_points = λ e. refl; scratch_kept = λ e. refl }

  module _ (n : ℕ) (x p q : List Float) (params : Params) where
    pub new_sound : Sound f (new_answer f n x p q params).filter
    unfolding new_of
    new_sound =
        by_cases (λ o. Sound f (or empty o)) (λ r. empty_sound) f (new_asks n (from x p ∷ []) q params) (accepted (filter (sheet_from n q params) (track_from n (from x p)))) (λ h.
        let small = (in_range_lem 1 8 n h.sizes.0).1 in
        let i = h.inputs in
        fresh_sound n _ _ _ params small
        (filled_front n 8 x (leb-true _ _ h.lent.0) small i.0)
        (filled_front (n * n) 64 p (leb-true _ _ h.lent.1.0) (square_room n small) i.1.0)
        (filled_front (n * n) 64 q (leb-true _ _ h.lent.1.1.0) (square_room n small) i.1.1.0)
        i.1.1.1.0
        (λ e. (both {a = fit f (by_params n params)} h.params).0))

    pub new_tidy : Tidy (new_answer f n x p q params).filter
    unfolding new_of
    new_tidy = by_cases (λ o. Tidy (or empty o)) (λ r. fresh_tidy _ _ _) f (new_asks n (from x p ∷ []) q params) _ (λ h. fresh_tidy _ _ _)

  -- ---- load

  -- what is read, over unused places
  filled_over : (k m : ℕ) (l : List Float) → length l ≡ k → k ≤ m → all_finite (take k (over l (zeros m))) ≡ true → Filled k m (over l (zeros m))
  filled_over k m l e h a = record {
    long = length-append l (drop (length l) (zeros m)) ∙ omega (arith, e, length-drop (length l) (zeros m), (filled_zeros 0 m).long);
    bounded = a;
    unused = drop_at l (drop (length l) (zeros m)) k e ∙ ap (λ (j : ℕ). drop j (zeros m)) e ∙ drop_zeros k m;
  }

  -- kinds, then plain ones
  kinds_over : (l : List Kind) (j : ℕ) → Pass finite_in (turn_inputs l) → every (fit f) (as_kinds l) ≡ true → (all_finite (halves (l ++ replicate j plain)) ≡ true) × (every (fit f) (as_kinds (l ++ replicate j plain)) ≡ true)
  unfolding all_finite
  kinds_over [] zero a b = (refl, refl)
  kinds_over [] (suc j) a b = kinds_over [] j tt refl
  kinds_over (k ∷ l) j a b =
      let t = fit f (by_kind k) in
      let i = kinds_over l j a.1 (both {a = t} b).1 in
      (both_true (both {a = finite (half_of k)} a.0).0 i.0, both_true (both {a = t} b).0 i.1)

  past_over : (l : List Kind) (j i : ℕ) → length l ≤ i → get_or (l ++ replicate j plain) i plain ≡ plain
  past_over [] j i h = plain_past j i
  past_over (k ∷ l) j zero h = absurd (omega arith)
  past_over (k ∷ l) j (suc i) h = past_over l j i (omega arith)

  -- x, P and Q are as long as there are states
  part_lengths : (b : List ℕ) → let n = states_in b in let v = numbers_in b in (length (take n v) ≡ n) × (length (take (n * n) (drop n v)) ≡ n * n) × (length (take (n * n) (drop (n * n) (drop n v))) ≡ n * n)
  part_lengths b =
      let n = states_in b in
      let v = numbers_in b in
      let l : length v ≡ numbers n = length_read 8 number_at (numbers n) _ in
      let p = length-drop n v in
      let q = length-drop (n * n) (drop n v) in
      (length-take-le n v (omega (arith, l)), length-take-le (n * n) (drop n v) (omega (arith, l, p)), length-take-le (n * n) (drop (n * n) (drop n v)) (omega (arith, l, p, q)))

  module _ (b : List ℕ) where
    abbrev kinds : List Kind
    kinds = each_kind b kind_at

    length_kinds : length kinds ≡ states_in b
    length_kinds = length_read 9 kind_at (states_in b) _

    -- behind the kinds that are read stand plain ones
    behind : over kinds (replicate 8 plain) ≡ kinds ++ replicate (8 - states_in b) plain
    behind = ap (λ (l : List Kind). kinds ++ l) (drop_same (length kinds) 8 plain ∙ ap (λ (j : ℕ). replicate (8 - j) plain) length_kinds)

    taken_sound : Passed f (load_asks b) → Sound f (filter_in b)
    taken_sound h =
        let n = states_in b in
        let v = numbers_in b in
        let small = (in_range_lem 1 8 n h.sizes.0).1 in
        let i = h.inputs in
        let sizes = part_lengths b in
        let k = kinds_over kinds (8 - n) i.1.1.1.1 (both {a = fit f (by_params n (filter_in b).sheet.params)} h.params).1 in record {
          small = small;
          x = filled_over n 8 (take n v) sizes.0 small i.0;
          p = filled_over (n * n) 64 (take (n * n) (drop n v)) sizes.1 (square_room n small) i.1.0;
          q = filled_over (n * n) 64 (take (n * n) (drop (n * n) (drop n v))) sizes.2 (square_room n small) i.1.1.0;
          params = i.1.1.1.0;
          passed = λ e. (both {a = fit f (by_params n (filter_in b).sheet.params)} h.params).0;
          kinds = ap (λ (l : List Kind). all_finite (halves l)) behind ∙ k.0;
          turns = ap (λ (l : List Kind). every (fit f) (as_kinds l)) behind ∙ k.1;
          eight = ap length behind ∙ length-append kinds (replicate (8 - n) plain) ∙ omega (arith, length_kinds, length-replicate (8 - n) plain, small);
          past = λ j l. ap (λ (ks : List Kind). get_or ks j plain) behind ∙ past_over kinds (8 - n) j (omega (arith, length_kinds, l));
          current = λ e. absurd (two_ways refl e);
          drawn = λ e. absurd (two_ways refl e);
          drawn_from = λ e. absurd (two_ways refl e);
          kept = λ e. absurd (two_ways e refl);
        }

    pub load_cases : (P : Filter → Type 0) → P empty → (Passed f (load_asks b) → P (filter_in b)) → P (load_answer f b).filter
    unfolding load_of
    load_cases P e h = go (leb 3 (length b)) (guarded f (load_asks b) (accepted (filter_in b))) (by_cases (λ o. P (or empty o)) (λ r. e) f (load_asks b) _ h)
      where
        go : (t : Bool) (o : Outcome Filter) → P (or empty o) → P (or empty (unless t SHORT o))
        go true o k = k
        go false o k = e

    pub load_sound : Sound f (load_answer f b).filter
    load_sound = load_cases (Sound f) empty_sound taken_sound

    pub load_tidy : Tidy (load_answer f b).filter
    load_tidy = load_cases Tidy (fresh_tidy _ _ _) (λ h. fresh_tidy _ _ _)

  -- ---- changes

  written_sound : (s : Filter) (c : Writing) → Sound f s → Fine f s (writes c) → Sound f (changed s (writes c))
  written_sound s (q_set v) o g = record { small = o.small; x = o.x; p = o.p; q = g.0; params = o.params; passed = o.passed; kinds = o.kinds; turns = o.turns; eight = o.eight; past = o.past; current = o.current; drawn = λ e. absurd (two_ways g.1 e); drawn_from = λ e. absurd (two_ways g.1 e); kept = λ e. absurd (two_ways g.1 (stepped_open s.track.stage e)) }
  written_sound s (params_set v) o g = record { small = o.small; x = o.x; p = o.p; q = o.q; params = g.0.0; passed = λ e. g.0.1; kinds = o.kinds; turns = o.turns; eight = o.eight; past = o.past; current = λ e. absurd (two_ways refl e); drawn = λ e. absurd (two_ways g.1 e); drawn_from = λ e. absurd (two_ways g.1 e); kept = λ e. absurd (two_ways g.1 (stepped_open s.track.stage e)) }
  written_sound s (kinds_set v) o g = record { small = o.small; x = o.x; p = o.p; q = o.q; params = o.params; passed = o.passed; kinds = g.0.0; turns = g.0.1; eight = g.0.2; past = g.0.3; current = λ e. absurd (two_ways refl e); drawn = λ e. absurd (two_ways g.1 e); drawn_from = λ e. absurd (two_ways g.1 e); kept = λ e. absurd (two_ways g.1 (stepped_open s.track.stage e)) }

  -- of a stepped call that has just been opened
  nothing_yet : (s : Filter) (t : Stage) (d : Weighted) → Keeps (filter s.sheet (with_drawn s.track t d))
  nothing_yet s t d = record { few = omega arith; images = filled_zeros _ 136; unnamed = λ e. refl; named = λ h. absurd (omega arith); asked = λ e. absurd (two_ways e refl) }

  set_sound : (s : Filter) (c : Setting) → Sound f s → Fine f s (sets c) → Sound f (changed s (sets c))
  set_sound s (x_set v) o g = record { small = o.small; x = g.0; p = o.p; q = o.q; params = o.params; passed = o.passed; kinds = o.kinds; turns = o.turns; eight = o.eight; past = o.past; current = λ e. absurd (two_ways refl e); drawn = λ e. absurd (two_ways g.1 e); drawn_from = λ e. absurd (two_ways g.1 e); kept = λ e. absurd (two_ways g.1 (stepped_open s.track.stage e)) }
  set_sound s (p_set v) o g = record { small = o.small; x = o.x; p = g.0; q = o.q; params = o.params; passed = o.passed; kinds = o.kinds; turns = o.turns; eight = o.eight; past = o.past; current = λ e. absurd (two_ways refl e); drawn = λ e. absurd (two_ways g.1 e); drawn_from = λ e. absurd (two_ways g.1 e); kept = λ e. absurd (two_ways g.1 (stepped_open s.track.stage e)) }
  set_sound s (opened_prediction d) o g = record { small = o.small; x = o.x; p = o.p; q = o.q; params = o.params; passed = o.passed; kinds = o.kinds; turns = o.turns; eight = o.eight; past = o.past; current = o.current; drawn = λ e. g.0.0; drawn_from = λ e. g.0.1; kept = λ e. absurd (two_ways e refl) }
  set_sound s (opened_correction d) o g = record { small = o.small; x = o.x; p = o.p; q = o.q; params = o.params; passed = o.passed; kinds = o.kinds; turns = o.turns; eight = o.eight; past = o.past; current = o.current; drawn = λ e. g.0.0; drawn_from = λ e. g.0.1; kept = λ e. absurd (two_ways e refl) }
  set_sound s (opened_prediction_stepped d) o g = record { small = o.small; x = o.x; p = o.p; q = o.q; params = o.params; passed = o.passed; kinds = o.kinds; turns = o.turns; eight = o.eight; past = o.past; current = o.current; drawn = λ e. g.0.0; drawn_from = λ e. g.0.1; kept = λ e. nothing_yet s PredictingStepped d }
  set_sound s (opened_correction_stepped d) o g = record { small = o.small; x = o.x; p = o.p; q = o.q; params = o.params; passed = o.passed; kinds = o.kinds; turns = o.turns; eight = o.eight; past = o.past; current = o.current; drawn = λ e. g.0.0; drawn_from = λ e. g.0.1; kept = λ e. nothing_yet s CorrectingStepped d }

  changed_sound : (s : Filter) (c : Change) → Sound f s → Fine f s c → Sound f (changed s c)
  changed_sound s (writes c) o g = written_sound s c o g
  changed_sound s (sets c) o g = set_sound s c o g
  changed_sound s (closes c) o g = record { small = o.small; x = g.0; p = g.1; q = o.q; params = o.params; passed = o.passed; kinds = o.kinds; turns = o.turns; eight = o.eight; past = o.past; current = λ e. g.2; drawn = λ e. absurd (two_ways refl e); drawn_from = λ e. absurd (two_ways refl e); kept = λ e. absurd (two_ways e refl) }
  changed_sound s (keeps k) o g = record { small = o.small; x = o.x; p = o.p; q = o.q; params = o.params; passed = o.passed; kinds = o.kinds; turns = o.turns; eight = o.eight; past = o.past; current = o.current; drawn = o.drawn; drawn_from = o.drawn_from; kept = λ e. g.1 }
  changed_sound s abandons o g = record { small = o.small; x = o.x; p = o.p; q = o.q; params = o.params; passed = o.passed; kinds = o.kinds; turns = o.turns; eight = o.eight; past = o.past; current = o.current; drawn = λ e. absurd (two_ways refl e); drawn_from = λ e. absurd (two_ways refl e); kept = λ e. absurd (two_ways e refl) }
  changed_sound s reads o g = o

  written_tidy : (s : Filter) (c : Writing) → Tidy s → Tidy (changed s (writes c))
  written_tidy s (q_set v) t = record { points = t.points; weights = t.weights; scratch_weights = t.scratch_weights; scratch_points = t.scratch_points; scratch_kept = t.scratch_kept }
  written_tidy s (params_set v) t = record { points = t.points; weights = t.weights; scratch_weights = t.scratch_weights; scratch_points = t.scratch_points; scratch_kept = t.scratch_kept }
  written_tidy s (kinds_set v) t = record { points = t.points; weights = t.weights; scratch_weights = t.scratch_weights; scratch_points = t.scratch_points; scratch_kept = t.scratch_kept }

  set_tidy : (s : Filter) (c : Setting) → Tidy s → Tidy (changed s (sets c))
  set_tidy s (x_set v) t = record { points = t.points; weights = t.weights; scratch_weights = t.scratch_weights; scratch_points = t.scratch_points; scratch_kept = t.scratch_kept }
  set_tidy s (p_set v) t = record { points = t.points; weights = t.weights; scratch_weights = t.scratch_weights; scratch_points = t.scratch_points; scratch_kept = t.scratch_kept }
  set_tidy s (opened_prediction d) t = record { points = t.points; weights = t.weights; scratch_weights = λ e. absurd (two_ways e refl); scratch_points = λ e. absurd (two_ways e refl); scratch_kept = λ e. refl }
  set_tidy s (opened_correction d) t = record { points = t.points; weights = t.weights; scratch_weights = λ e. absurd (two_ways e refl); scratch_points = λ e. absurd (two_ways e refl); scratch_kept = λ e. refl }
  set_tidy s (opened_prediction_stepped d) t = record { points = t.points; weights = t.weights; scratch_weights = λ e. absurd (two_ways e refl); scratch_points = λ e. absurd (two_ways e refl); scratch_kept = λ e. refl }
  set_tidy s (opened_correction_stepped d) t = record { points = t.points; weights = t.weights; scratch_weights = λ e. absurd (two_ways e refl); scratch_points = λ e. absurd (two_ways e refl); scratch_kept = λ e. refl }

  changed_tidy : (s : Filter) (c : Change) → Tidy s → Fine f s c → Tidy (changed s c)
  changed_tidy s (writes c) t g = written_tidy s c t
  changed_tidy s (sets c) t g = set_tidy s c t
  changed_tidy s (closes c) t g = record { points = g.2.points; weights = g.2.weights; scratch_weights = λ e. refl; scratch_points = λ e. refl; scratch_kept = λ e. refl }
  changed_tidy s (keeps k) t g = let u = stepped_open s.track.stage g.0 in record { points = t.points; weights = t.weights; scratch_weights = λ e. absurd (two_ways e u); scratch_points = λ e. absurd (two_ways e u); scratch_kept = λ e. absurd (two_ways g.0 e) }
  changed_tidy s abandons t g = record { points = t.points; weights = t.weights; scratch_weights = λ e. refl; scratch_points = λ e. refl; scratch_kept = λ e. refl }
  changed_tidy s reads t g = t

  -- ---- EVERY CALL KEEPS IT

  module _ (s : Filter) (c : Call) (o : Sound f s) where
    fine_cases : (P : Outcome Done → Type 0) → ((r : Refusal) → P (refused r)) → ((d : Done) → FineDone f s d → P (accepted d)) → P (outcome f (seen s) c)
    fine_cases P left taken = by_cases P left f (asks (seen s) c) (run (plan f (seen s) c)) (λ h. run_cases (FineDone f s) P left (plan f (seen s) c) (fine f s o c h) taken)

    pub step_sound : Sound f (step f s c).filter
    unfolding step
    step_sound = fine_cases (λ r. Sound f (stepped s r).filter) (λ r. o) (λ d g. changed_sound s d.change o g.change)

    pub step_tidy : Tidy s → Tidy (step f s c).filter
    unfolding step
    step_tidy t = fine_cases (λ r. Tidy (stepped s r).filter) (λ r. t) (λ d g. changed_tidy s d.change t g.change)

    given_finite : all_finite (step f s c).reply.given ≡ true
    unfolding step all_finite
    given_finite = fine_cases (λ r. all_finite (stepped s r).reply.given ≡ true) (λ r. refl) (λ d g. g.given)

  -- with points, weights and scratch put at will, stale and with no call open
  alike_sound : (s t : Filter) → Sound f s → Alike s t → Sound f t
  alike_sound s t o a = record {
    small = rw (sym a.sheet) o.small;
    x = rw (sym a.sheet, sym a.track.x) o.x;
    p = rw (sym a.sheet, sym a.track.p) o.p;
    q = rw (sym a.sheet) o.q;
    params = rw (sym a.sheet) o.params;
    passed = rw (sym a.sheet) o.passed;
    kinds = rw (sym a.sheet) o.kinds;
    turns = rw (sym a.sheet) o.turns;
    eight = rw (sym a.sheet) o.eight;
    past = rw (sym a.sheet) o.past;
    current = λ e. absurd (two_ways a.track.stale₂ e);
    drawn = λ e. absurd (two_ways (ap is_shut a.track.shut₂) e);
    drawn_from = λ e. absurd (two_ways (ap is_shut a.track.shut₂) e);
    kept = λ e. absurd (two_ways e (ap is_stepped a.track.shut₂));
  }

  pub sound : {s : Filter} → Yielded f s → Sound f s
  sound (fresh_made n x p q params) = new_sound n x p q params
  sound (loaded b) = load_sound b
  sound (stepped_on {s = s} y c) = step_sound s c (sound y)
  sound (put_at_will {s = s} t y a) = alike_sound s t (sound y) a

  pub tidy : {s : Filter} → Reached f s → Sound f s × Tidy s
  tidy (made n x p q params) = (new_sound n x p q params, new_tidy n x p q params)
  tidy (read b) = (load_sound b, load_tidy b)
  tidy (further {s = s} r c) = let i = tidy r in (step_sound s c i.0, step_tidy s c i.0 i.1)

  -- ---- EVERY NUMBER HANDED OUT IS FINITE

  pub tells_finite : (s : Filter) (c : Call) → Sound f s → all_finite (handed_out (tells (step f s c))) ≡ true
  unfolding tells
  tells_finite s c o =
      let t = step_sound s c o in
      all_both (step f s c).reply.given _ (given_finite s c o) (all_both (step f s c).filter.track.x (step f s c).filter.track.p (filled_all t.x) (filled_all t.p))

  run_finite : (s : Filter) → Sound f s → (cs : List Call) → Each (λ t. all_finite (handed_out t) ≡ true) (told f s cs)
  unfolding told
  run_finite s o [] = end
  run_finite s o (c ∷ cs) = and (tells_finite s c o) (run_finite (step f s c).filter (step_sound s c o) cs)

  pub all_handed_finite : (s : Filter) → Yielded f s → (cs : List Call) → Each (λ t. all_finite (handed_out t) ≡ true) (told f s cs)
  all_handed_finite s y cs = run_finite s (sound y) cs
