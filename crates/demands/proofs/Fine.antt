-- Each call that is taken on a sound filter installs what is right and hands out finite numbers: a line for each call. Assumes nothing.
use Prim.Native.Nat.{ℕ, zero, suc, ◌+◌, ◌-◌, ◌*◌, ◌≤◌}
use mathlib.Core.Path.{◌≡◌, refl, sym, ap, ◌∙◌, subst}
use mathlib.Core.Bool.{Bool, true, false, cond}
use mathlib.Core.List.{List, []}
use native.Mathlib.Nat.{mul-le-mul}
use native.Mathlib.Omega.{arith}
use borrow.Author.Tests.{leb-true, ne_eqb}
use lib.Dec.{leb, eqb}
use lib.ListN.{length, take, set, get_or, length-set}
use lib.Seq.{get_or-set_other}
use lib.Ieee.{Float, Format}
use lib.Ieee.Scale.{finite}
use Rattle.floats.specs.Refusal.{accepted}
use Rattle.floats.specs.Numbers.{zeros, all_finite, above_zero}
use Rattle.floats.proofs.Finite.{all_zeros}
use Rattle.angles.specs.Kinds.{plain, half_of}
use Rattle.matrix.specs.Results.{mapped}
use Rattle.sigma.specs.Weights.{Params}
use Rattle.sigma.specs.Weights.{scale_of, w0m_of, w0c_of, wi_of, weight_at, weights_of, weights_pass}
use Rattle.sigma.specs.Draw.{point_numbers, draw_of}
use Rattle.sigma.specs.Predict.{Moment}
use Rattle.sigma.proofs.Entries.{weights_placed}
use Rattle.sigma.proofs.Accepted.{placed_in_use, MomentInUse, draw_accepted, predict_accepted}
use Rattle.correction.specs.Correct.{Head, apply_plan}
use Rattle.correction.proofs.Accepted.{apply_accepted}
use Rattle.filter.specs.Types.{Filter}
use Rattle.filter.specs.declared.Stage.{Stage}
use Rattle.filter.specs.declared.Stage.TheVariants.{CorrectingStepped}
use Rattle.filter.specs.Asked.{Asks, fit, by_params, by_kind, in_range, within, every}
use Rattle.filter.specs.Filters.{is_shut, is_predicting_stepped, is_correcting_stepped, is_correction, is_stepped, seen, Writing, q_set, params_set, kinds_set, Setting, x_set, p_set, opened_prediction, opened_correction, opened_prediction_stepped, opened_correction_stepped, Closing, Change, writes, sets, closes, keeps, abandons, reads, changed}
use Rattle.filter.specs.Calls.{set_x, set_p, set_q, set_params, set_kind, open_prediction, open_correction, open_prediction_stepped, open_correction_stepped, ask, image_prediction, image_correction, close_prediction, close_correction, close_correction_flat, SteppedClose, close_prediction_stepped, close_correction_stepped, close_correction_flat_stepped, with_list, read_x, read_p, read_q, read_points, read_params, read_stale, save, Call, writing, setting, stepping, closing, closing_stepped, abandon, reading, due, fits, sized, halves, values_of, as_kinds, named, asks, Done, opened, opened_stepped, closed, draws, close_plan, plan, weighted_from, flat_from}
use Rattle.filter.proofs.Closing.{predicting_open, correcting_open, propagated_of, predicting, predicting_is, correcting_is, correcting_flat_is}
use Rattle.stepped.proofs.Seen.{stepped_open, predicting_at, correcting_at, fits_seen, asked_is, predicted_is, observed_is, observed_asks}
use Rattle.stepped.proofs.Ways.{own_stepped_lem, planned_whole}
use Rattle.demands.specs.Sound.{Filled, Laid, DrawnFrom, each, Keeps, Sound}
use Rattle.demands.proofs.Passed.{both, Pass, Passed, Ran, ran_finish, ran_either, ran_mapped}
use Rattle.demands.proofs.Rows.{two_ways}
use Rattle.demands.proofs.Listed.{drawing}
use Rattle.demands.proofs.Accepted.{point_asked, image_in}
use Rattle.demands.proofs.Arrays.{all_front, all_back, all_places, in_use_filled, filled_front, filled_paste, filled_all, kinds_finite, kinds_fit}

-- ---- what a change installs is right for the filter

module _ (f : Format) (s : Filter) where
  abbrev pub FineWriting : Writing → Type 0
  FineWriting (q_set v) = Filled (s.sheet.n * s.sheet.n) 64 v
  FineWriting (params_set v) = (all_finite (values_of v) ≡ true) × (weights_pass f s.sheet.n v ≡ true)
  FineWriting (kinds_set v) = (all_finite (halves v) ≡ true) × (every (fit f) (as_kinds v) ≡ true) × (length v ≡ 8) × ((i : ℕ) → s.sheet.n ≤ i → get_or v i plain ≡ plain)

  abbrev pub FineSetting : Setting → Type 0
  FineSetting (x_set v) = Filled s.sheet.n 8 v
  FineSetting (p_set v) = Filled (s.sheet.n * s.sheet.n) 64 v
  FineSetting (opened_prediction d) = Laid f s.sheet.n s.sheet.params d × DrawnFrom f (changed s (sets (opened_prediction d)))
  FineSetting (opened_correction d) = Laid f s.sheet.n s.sheet.params d × DrawnFrom f (changed s (sets (opened_correction d)))
  FineSetting (opened_prediction_stepped d) = Laid f s.sheet.n s.sheet.params d × DrawnFrom f (changed s (sets (opened_prediction_stepped d)))
  FineSetting (opened_correction_stepped d) = Laid f s.sheet.n s.sheet.params d × DrawnFrom f (changed s (sets (opened_correction_stepped d)))

  abbrev pub FineClosing : Closing → Type 0
  FineClosing c = Filled s.sheet.n 8 c.x × Filled (s.sheet.n * s.sheet.n) 64 c.p × Laid f s.sheet.n s.sheet.params c.installed

  -- the sheet is written, and a setting made, with nothing open, so that nothing drawn goes out of date
  abbrev pub Fine : Change → Type 0
  Fine (writes c) = FineWriting c × (is_shut s.track.stage ≡ true)
  Fine (sets c) = FineSetting c × (is_shut s.track.stage ≡ true)
  Fine (closes c) = FineClosing c
  Fine (keeps k) = (is_stepped s.track.stage ≡ true) × Keeps (changed s (keeps k))
  Fine abandons = Unit {0}
  Fine reads = Unit {0}

  pub record FineDone (d : Done) : Type 0 where
    pub change : Fine d.change
    pub given : all_finite d.given ≡ true

-- ---- sizes

pub in_range_lem : (from to n : ℕ) → in_range from to n ≡ true → (from ≤ n) × (n ≤ to)
unfolding in_range
in_range_lem from to n h = let p = both {a = leb from n} h in (leb-true from n p.0, leb-true n to p.1)

pub points_room : (n : ℕ) → n ≤ 8 → point_numbers n ≤ 136
points_room n h = let k : n + n + 1 ≤ 17 = omega arith in mul-le-mul k h

pub square_room : (n : ℕ) → n ≤ 8 → n * n ≤ 64
square_room n h = mul-le-mul h h

-- ---- the steps

module _ (f : Format) where
  module _ (n : ℕ) (p : Params) (h : weights_pass f n p ≡ true) where
    weights_bounded : (finite (w0c_of f n p) ≡ true) × (finite (wi_of f n p) ≡ true)
    unfolding weights_pass all_finite
    weights_bounded =
        let a = (both {a = above_zero (scale_of f n p)} h).1 in
        let b = (both {a = finite (w0m_of f n p)} a).1 in
        let c = both {a = finite (w0c_of f n p)} b in
        (c.0, (both {a = finite (wi_of f n p)} c.1).0)

    weight_finite : (k : ℕ) → finite (weight_at f n p k) ≡ true
    weight_finite k = go (eqb k 0)
      where
        go : (t : Bool) → finite (cond t (w0c_of f n p) (wi_of f n p)) ≡ true
        go true = weights_bounded.0
        go false = weights_bounded.1

    laid_weights : n ≤ 8 → (points : List Float) → Filled (point_numbers n) 136 points → Laid f n p (record { weights = weights_of f n p; points = points })
    laid_weights l points a = record {
      weights_of_lem = refl;
      weights = in_use_filled (placed_in_use (weights_placed f n p l) (all_front (n + n + 1) (weights_of f n p) (all_places (weight_at f n p) weight_finite (n + n + 1) (zeros 17) (all_zeros 17))));
      points = a;
    }

moment_filled : {n : ℕ} {m : Moment} → MomentInUse n m → Filled n 8 m.x × Filled (n * n) 64 m.p
moment_filled u = (in_use_filled u.x_in_use, in_use_filled u.p_in_use)

-- ---- each call, once taken

module _ (f : Format) (s : Filter) (o : Sound f s) where
  -- with nothing open the weights and points drawn are laid out
  drawn_fine : (to : List Float → List Float → Done) → ((w points : List Float) → Laid f s.sheet.n s.sheet.params (record { weights = w; points = points }) → draw_of f s.sheet.n s.track.x s.track.p (scale_of f s.sheet.n s.sheet.params) ≡ accepted points → FineDone f s (to w points)) → 1 ≤ s.sheet.n
      → Ran (draws f to (seen s)) (λ (d : Done). FineDone f s d)
  drawn_fine to fine h =
      ran_mapped _ (to (weights_of f s.sheet.n s.sheet.params)) (drawing f (seen s)) (λ points e.
      let a = in_use_filled (draw_accepted f s.sheet.n s.track.x s.track.p (scale_of f s.sheet.n s.sheet.params) points o.small e) in
      fine _ points (laid_weights f s.sheet.n s.sheet.params (o.passed h) o.small points a) e)

  open_weighted : is_shut s.track.stage ≡ false → (points : List Float) → Filled (point_numbers s.sheet.n) 136 points → Laid f s.sheet.n s.sheet.params (record { weights = s.track.drawn_weights; points = points })
  open_weighted h points a = record { weights_of_lem = (o.drawn h).weights_of_lem; weights = (o.drawn h).weights; points = a }

  -- a close of a prediction, by a list that is long enough and finite
  predicted_fine : is_shut s.track.stage ≡ false → (v : List Float) → point_numbers s.sheet.n ≤ length v → all_finite (take (point_numbers s.sheet.n) v) ≡ true → Ran (mapped (closed s.track.drawn_weights (propagated_of f s v) false) (predicting f s v)) (λ (d : Done). FineDone f s d)
  unfolding all_finite
  predicted_fine t v l b =
      ran_mapped _ (closed s.track.drawn_weights (propagated_of f s v) false) (predicting f s v) (λ m e.
      let a = moment_filled (predict_accepted f s.sheet.n (propagated_of f s v) (w0m_of f s.sheet.n s.sheet.params) s.track.drawn_weights s.sheet.kinds s.sheet.q m o.small e) in
      record { change = (a.0, a.1, open_weighted t (propagated_of f s v) (filled_front (point_numbers s.sheet.n) 136 v l (points_room s.sheet.n o.small) b)); given = refl })

  -- one of a correction, of either sort
  corrected_fine : is_shut s.track.stage ≡ false → (h : Head) → h.n ≡ s.sheet.n → Ran (mapped (closed s.track.drawn_weights s.track.drawn_points true) (apply_plan f h)) (λ (d : Done). FineDone f s d)
  unfolding all_finite
  corrected_fine t h e =
      ran_mapped _ (closed s.track.drawn_weights s.track.drawn_points true) (apply_plan f h) (λ q r.
      let a : Filled s.sheet.n 8 q.x × Filled (s.sheet.n * s.sheet.n) 64 q.p = rw (← e) (moment_filled (apply_accepted f h q (rw e o.small) r)) in
      record { change = (a.0, a.1, open_weighted t s.track.drawn_points (o.drawn t).points); given = refl })

  -- ---- a stepped call

  module _ (st : is_stepped s.track.stage ≡ true) where
    opened_so : is_shut s.track.stage ≡ false
    opened_so = stepped_open s.track.stage st

    images_finite : all_finite s.track.kept.images ≡ true
    images_finite = filled_all (o.kept st).images

    asked_fine : s.track.kept.at ≤ s.sheet.n + s.sheet.n → FineDone f s (point_asked f s)
    asked_fine l = record {
      change = (st, record { few = (o.kept st).few; images = (o.kept st).images; unnamed = (o.kept st).unnamed; named = (o.kept st).named; asked = λ e. l });
      given = all_front s.sheet.n _ (all_back (s.track.kept.at * s.sheet.n) s.track.drawn_points (filled_all (o.drawn opened_so).points));
    }

    -- an image of d numbers, after as many of d each
    image_fine : (m d : ℕ) (v : List Float) → s.track.kept.at ≤ s.sheet.n + s.sheet.n → d ≤ 8 → s.track.kept.at * each s ≡ s.track.kept.at * d → cond (is_correction s.track.stage) m s.sheet.n ≡ d
        → cond (is_correction s.track.stage) (in_range 1 4 m) (eqb m 0) ≡ true → d ≤ length v → all_finite (take d v) ≡ true → FineDone f s (image_in f s m d v)
    unfolding all_finite
    image_fine m d v l small before size name long b = record {
      change = (
        st,
        record {
          few = omega arith;
          images = rw (size, next) (filled_paste (s.track.kept.at * d) d 136 s.track.kept.images v (rw (← before) (o.kept st).images) room long b);
          unnamed = λ e. omega arith;
          named = λ h. name;
          asked = λ e. absurd (two_ways e refl);
        },
      );
      given = refl;
    }
      where
        next : (s.track.kept.at + 1) * d ≡ s.track.kept.at * d + d
        next = omega arith

        room : s.track.kept.at * d + d ≤ 136
        room = let k : s.track.kept.at + 1 ≤ 17 = omega (arith, o.small) in omega (arith, mul-le-mul k small, next)

    -- after the first image m is the one that it has named
    same_m : s.track.stage ≡ CorrectingStepped → (m : ℕ) → Pass within (named s.track.kept m) → s.track.kept.at * s.track.kept.m ≡ s.track.kept.at * m
    same_m e m h = go s.track.kept.at refl
      where
        by : (k : ℕ) → 1 ≤ k → Pass within (cond (eqb k 0) [] (sized m k k)) → k ≡ m
        by k l h = let w : in_range k k m ≡ true = (rw (ne_eqb k 0 (λ z. absurd (omega arith))) at h).0 in omega (arith, in_range_lem k k m w)

        go : (k : ℕ) → s.track.kept.at ≡ k → s.track.kept.at * s.track.kept.m ≡ s.track.kept.at * m
        go zero a = rw a (omega arith)
        go (suc k) a = ap (λ (j : ℕ). s.track.kept.at * j) (by s.track.kept.m (in_range_lem 1 4 s.track.kept.m (subst (λ (t : Stage). cond (is_correction t) (in_range 1 4 s.track.kept.m) (eqb s.track.kept.m 0) ≡ true) e ((o.kept st).named (omega arith)))).0 h)

    -- its closes, on the images
    closed_fine : (c : SteppedClose) → Ran (close_plan f s (with_list c s.track.kept.images)) (λ (d : Done). FineDone f s d)
    closed_fine close_prediction_stepped = predicted_fine opened_so s.track.kept.images (omega (arith, points_room s.sheet.n o.small, (o.kept st).images.long)) (all_front (point_numbers s.sheet.n) _ images_finite)
    closed_fine (close_correction_stepped m z r kinds) = corrected_fine opened_so (weighted_from f s m z r kinds s.track.kept.images) refl
    closed_fine (close_correction_flat_stepped m z r) = corrected_fine opened_so (flat_from f s m z r s.track.kept.images) refl

  -- a call that has passed fits
  fitted : (c : Call) → Passed f (asks (seen s) c) → fits c s ≡ true
  fitted c h = sym (fits_seen s c) ∙ h.fits

  pub fine : (c : Call) → Passed f (asks (seen s) c) → Ran (plan f (seen s) c) (λ (d : Done). FineDone f s d)
  unfolding all_finite
  fine (setting (set_x v)) h =
      ran_finish _ _ (record { change = (filled_front s.sheet.n 8 v (leb-true _ _ h.lent.0) (in_range_lem 1 8 s.sheet.n h.sizes.0).1 h.inputs.0, h.fits); given = refl })
  fine (setting (set_p v)) h =
      ran_finish _ _ (record { change = (filled_front (s.sheet.n * s.sheet.n) 64 v (leb-true _ _ h.lent.0) (square_room s.sheet.n (in_range_lem 1 8 s.sheet.n h.sizes.0).1) h.inputs.0, h.fits); given = refl })
  fine (writing (set_q v)) h =
      ran_finish _ _ (record { change = (filled_front (s.sheet.n * s.sheet.n) 64 v (leb-true _ _ h.lent.0) (square_room s.sheet.n (in_range_lem 1 8 s.sheet.n h.sizes.0).1) h.inputs.0, h.fits); given = refl })
  fine (writing (set_params p)) h = ran_finish _ _ (record { change = ((h.inputs.0, (both {a = fit f (by_params s.sheet.n p)} h.params).0), h.fits); given = refl })
  fine (writing (set_kind i k)) h =
      ran_finish _ _ (record {
        change = ((kinds_finite k s.sheet.kinds i o.kinds (both {a = finite (half_of k)} h.inputs.0).0, kinds_fit k f s.sheet.kinds i o.turns (both {a = fit f (by_kind k)} h.params).0, length-set s.sheet.kinds i k ∙ o.eight, past), h.fits);
        given = refl;
      })
    where
      -- the index is a state's
      past : (j : ℕ) → s.sheet.n ≤ j → get_or (set s.sheet.kinds i k) j plain ≡ plain
      past j l = get_or-set_other s.sheet.kinds i j k plain (λ e. absurd (omega (arith, in_range_lem 1 8 s.sheet.n h.sizes.0, in_range_lem 0 (s.sheet.n - 1) i h.sizes.1.0))) ∙ o.past j l
  fine (setting (open_prediction b)) h = drawn_fine (opened opened_prediction s.sheet.n) (λ w v a e. record { change = ((a, e), h.fits); given = a.points.bounded }) (in_range_lem 1 8 s.sheet.n h.sizes.0).0
  fine (setting (open_correction b)) h =
      ran_either _ s.track.stale _ _
      (λ t. drawn_fine (opened opened_correction s.sheet.n) (λ w v a e. record { change = ((a, rw t e), h.fits); given = a.points.bounded }) (in_range_lem 1 8 s.sheet.n h.sizes.0).0)
      (λ t. ran_finish _ _ (rw t (record { change = ((o.current t, refl), h.fits); given = (o.current t).points.bounded })))
  fine (setting open_prediction_stepped) h = drawn_fine (opened_stepped opened_prediction_stepped) (λ w v a e. record { change = ((a, e), h.fits); given = refl }) (in_range_lem 1 8 s.sheet.n h.sizes.0).0
  fine (setting open_correction_stepped) h =
      ran_either _ s.track.stale _ _
      (λ t. drawn_fine (opened_stepped opened_correction_stepped) (λ w v a e. record { change = ((a, rw t e), h.fits); given = refl }) (in_range_lem 1 8 s.sheet.n h.sizes.0).0)
      (λ t. ran_finish _ _ (rw t (record { change = ((o.current t, refl), h.fits); given = refl })))
  fine (stepping (ask b)) h =
      let c = stepping (ask b) in
      let w = both {a = is_stepped s.track.stage} (fitted c h) in
      rw (asked_is f s b w.0) (ran_finish _ (point_asked f s) (asked_fine w.0 (leb-true _ _ w.1)))
  fine (stepping (image_prediction v)) h =
      let c = stepping (image_prediction v) in
      let w = both {a = is_predicting_stepped s.track.stage} (fitted c h) in
      let l = (both {a = due s} w.1).0 in
      let e = predicting_at s.track.stage w.0 in
      rw (predicted_is f s v w.0) (ran_finish _ (image_in f s 0 s.sheet.n v) (image_fine (rw e) 0 s.sheet.n v (leb-true _ _ l) o.small (rw e) (rw e) (rw e) (leb-true _ _ h.lent.0) h.inputs.0))
  fine (stepping (image_correction m v)) h =
      let c = stepping (image_correction m v) in
      let w = both {a = is_correcting_stepped s.track.stage} (fitted c h) in
      let l = (both {a = due s} w.1).0 in
      let e = correcting_at s.track.stage w.0 in
      let st : is_stepped s.track.stage ≡ true = rw e in
      let sizes : Pass within (asks s c).sizes = subst (λ (a : Asks). Pass within a.sizes) (sym (observed_asks f s m v (fitted c h))) h.sizes in
      let small = in_range_lem 1 4 m sizes.1.0 in
      rw (observed_is f s m v w.0) (ran_finish _ (image_in f s m m v) (image_fine st m m v (leb-true _ _ l) (omega (arith, small)) (rw e (same_m st e m sizes.1.1)) (rw e) (rw e sizes.1.0) (leb-true _ _ h.lent.0) h.inputs.0))
  fine (closing (close_prediction v)) h = rw (predicting_is f s v h.fits) (predicted_fine (predicting_open s.track.stage h.fits) v (leb-true _ _ h.lent.0) h.inputs.0)
  fine (closing (close_correction m z r kinds observed)) h = rw (correcting_is f s m z r kinds observed h.fits) (corrected_fine (correcting_open s.track.stage h.fits) (weighted_from f s m z r kinds observed) refl)
  fine (closing (close_correction_flat m z r observed)) h = rw (correcting_flat_is f s m z r observed h.fits) (corrected_fine (correcting_open s.track.stage h.fits) (flat_from f s m z r observed) refl)
  fine (closing_stepped c) h = let k = fitted (closing_stepped c) h in rw (planned_whole f s c k) (closed_fine (own_stepped_lem s c k) c)
  fine abandon h = ran_finish _ _ (record { change = tt; given = refl })
  fine (reading (read_x b)) h = ran_finish _ _ (record { change = tt; given = o.x.bounded })
  fine (reading (read_p b)) h = ran_finish _ _ (record { change = tt; given = o.p.bounded })
  fine (reading (read_q b)) h = ran_finish _ _ (record { change = tt; given = o.q.bounded })
  fine (reading (read_points b)) h = ran_finish _ _ (record { change = tt; given = rw h.stale (o.current h.stale).points.bounded })
  fine (reading read_params) h = ran_finish _ _ (record { change = tt; given = o.params })
  fine (reading read_stale) h = ran_finish _ _ (record { change = tt; given = refl })
  fine (reading (save b)) h = ran_finish _ _ (record { change = tt; given = refl })
