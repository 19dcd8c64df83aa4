-- What a stepped close asks: the images that are in are long enough and finite, so that of its list nothing is refused. Assumes nothing.
use Prim.Native.Nat.{ℕ, ◌+◌, ◌*◌, ◌<◌, ◌≤◌}
use mathlib.Core.Path.{◌≡◌, refl, sym, ap, ◌∙◌, subst}
use mathlib.Core.Bool.{Bool, true, false, ◌&&◌, cond}
use mathlib.Core.List.{List, [], ◌∷◌, ◌++◌}
use mathlib.Core.Logic.{◌↔◌, ◌≢◌, ◌⊎◌, inl, inr, ⊎_elim}
use native.Mathlib.Nat.{mul-le-mul}
use native.Mathlib.Omega.{arith}
use borrow.Author.Tests.{le-leb, lt-leb, ne_eqb}
use lib.Dec.{leb}
use lib.ListN.{length, take}
use lib.Ieee.{Float, Format}
use Rattle.floats.specs.declared.Slice.TheVariants.{Noise, Points}
use Rattle.floats.specs.declared.Refusal.{Refusal}
use Rattle.floats.specs.declared.Refusal.TheVariants.{Stage as STAGE, Size as SIZE, Number as NUMBER}
use Rattle.floats.specs.Refusal.{verdict, taken, Outcome, refusal, onward}
use Rattle.floats.specs.Search.{Input, input, searched_from, searched}
use Rattle.floats.specs.Numbers.{all_finite}
use Rattle.floats.proofs.Finite.{all_zeros}
use Rattle.floats.proofs.Refusals.{number_of, number_above}
use Rattle.floats.proofs.Search.{none_bad}
use Rattle.angles.specs.Kinds.{Kind}
use Rattle.matrix.specs.Results.{run, planned}
use Rattle.matrix.proofs.Cells.{length_zeros}
use Rattle.sigma.specs.Draw.{point_numbers}
use Rattle.filter.specs.declared.Stage.{Stage}
use Rattle.filter.specs.declared.Stage.TheVariants.{Shut, Predicting, Correcting, PredictingStepped, CorrectingStepped}
use Rattle.filter.specs.Types.{Filter}
use Rattle.filter.specs.Asked.{Asks, in_range, within, long, every, guarded}
use Rattle.filter.specs.Filters.{is_shut, is_predicting, is_correcting, is_predicting_stepped, is_correcting_stepped, is_stepped, nothing_kept, seen}
use Rattle.filter.specs.Calls.{CloseCall, close_prediction, close_correction, close_correction_flat, StepCall, ask, image_prediction, image_correction, SteppedClose, close_prediction_stepped, close_correction_stepped, close_correction_flat_stepped, Call, stepping, closing, closing_stepped, abandon, due, own_stepped, fits, sized, named, observed_numbers, asks, plan}
use Rattle.filter.specs.Steps.{step}
use Rattle.filter.proofs.Sizes.{every_append}
use Rattle.demands.specs.Rows.{stepped_asks, FirstBad, searches, IsOpen, Free, Some, here, there, OutOfRange, Cause, stage, size, short, form, stale, fresh, kind, param, met, Applies, rank, Due}
use Rattle.demands.specs.Rows as Row
use Rattle.demands.specs.Sound.{Sound}
use Rattle.matrix.proofs.Flat.{split}
use Rattle.stepped.proofs.Seen.{fits_seen, observed_asks}
use Rattle.stepped.proofs.Ways.{own_stage}
use Rattle.demands.proofs.Rows.{two_ways}
use Rattle.demands.proofs.Table.{regular, stage_exactly}
use Rattle.demands.proofs.Pivots.{number_exactly}
use Rattle.demands.proofs.Passed.{both}
use Rattle.demands.proofs.Exactly.{step_told, exactly, refused_nothing, guarded_exactly, guarded_taken, plan_ends}
use Rattle.demands.proofs.Arrays.{all_front, filled_all}
use Rattle.demands.proofs.Fine.{in_range_lem, points_room}

-- two calls whose tests agree once sizes pass come to the same
sized_agree : {A : Type 0} (f : Format) (a c : Asks) (o : Outcome A) → a.fits ≡ c.fits → a.sizes ≡ c.sizes → (every within a.sizes ≡ true → (every long a.lent ≡ every long c.lent) × (searched a.inputs ≡ searched c.inputs)) → a.formed ≡ c.formed → a.stale ≡ c.stale → a.fresh ≡ c.fresh → a.plain ≡ c.plain → a.params ≡ c.params → guarded f a o ≡ guarded f c o
unfolding guarded
sized_agree f a c o e₁ e₂ h e₃ e₄ e₅ e₆ e₇ = go (every within a.sizes) refl
  where
    go : (t : Bool) → every within a.sizes ≡ t → guarded f a o ≡ guarded f c o
    go true s = let w = h s in rw (e₁, e₂, w.0, e₃, e₄, e₅, w.1, e₆, e₇)
    go false s = rw (e₁, e₂, ap (every within) (sym e₂) ∙ s)

module _ (f : Format) (s : Filter) (o : Sound f s) where
  abbrev images : List Float
  images = (seen s).track.kept.images

  images_fine : (length images ≡ 136) × (all_finite images ≡ true)
  images_fine = go (is_stepped s.track.stage) refl
    where
      go : (t : Bool) → is_stepped s.track.stage ≡ t → (length (cond t s.track.kept nothing_kept).images ≡ 136) × (all_finite (cond t s.track.kept nothing_kept).images ≡ true)
      go true e = ((o.kept e).images.long, filled_all (o.kept e).images)
      go false e = (length_zeros 136, all_zeros 136)

  enough : (k : ℕ) → k ≤ 136 → leb k (length images) ≡ true
  enough k h = le-leb k (length images) (omega (arith, images_fine.0))

  -- they are no reason to refuse
  unsearched : (k : ℕ) (l : List Input) → searched (input Points (take k images) ++ l) ≡ searched l
  unfolding searched
  unsearched k l = rw (none_bad Points 0 (take k images) (all_front k images images_fine.1))

  measured_room : (m : ℕ) → every within (record { value = s.sheet.n; from = 1; to = 8 } ∷ named (seen s).track.kept m ++ (record { value = m; from = 1; to = 4 } ∷ [])) ≡ true → observed_numbers s.sheet.n m ≤ 136
  measured_room m h =
      let a = (both {a = in_range 1 8 s.sheet.n} h).1 in
      let b = (both {a = every within (named (seen s).track.kept m)} (sym (every_append within (named (seen s).track.kept m) _) ∙ a)).1 in
      let c = in_range_lem 1 4 m (both {a = in_range 1 4 m} b).0 in
      let d : s.sheet.n + s.sheet.n + 1 ≤ 17 = omega (arith, o.small) in
      let e : m ≤ 8 = omega arith in
      mul-le-mul d e

  -- after R
  noise_first : (r : List Float) (k : ℕ) (l : List Input) → searched (input Noise r ++ (input Points (take k images) ++ l)) ≡ searched (input Noise r ++ l)
  unfolding searched
  noise_first r k l = ap (λ (q : Outcome Bool). onward (searched_from Noise 0 r) (λ (t : Bool). q)) (unsearched k l)

  listless : {A : Type 0} (c : SteppedClose) (q : Outcome A) → guarded f (asks (seen s) (closing_stepped c)) q ≡ guarded f (stepped_asks (seen s) c) q
  listless close_prediction_stepped q = sized_agree f _ _ q refl refl (λ h. (rw (enough (point_numbers s.sheet.n) (points_room s.sheet.n o.small)), unsearched (point_numbers s.sheet.n) [])) refl refl refl refl refl
  listless (close_correction_stepped m z r kinds) q = sized_agree f _ _ q refl refl (λ h. (rw (enough (observed_numbers s.sheet.n m) (measured_room m h)), noise_first (take (m * m) r) (observed_numbers s.sheet.n m) _)) refl refl refl refl refl
  listless (close_correction_flat_stepped m z r) q = sized_agree f _ _ q refl refl (λ h. (rw (enough (observed_numbers s.sheet.n m) (measured_room m h)), noise_first (take (m * m) r) (observed_numbers s.sheet.n m) _)) refl refl refl refl refl

  module _ (c : SteppedClose) where
    told_so : (step f s (closing_stepped c)).reply.refusal ≡ refusal (guarded f (stepped_asks (seen s) c) (run (plan f (seen s) (closing_stepped c))))
    told_so = step_told f s (closing_stepped c) ∙ ap refusal (listless c (run (plan f (seen s) (closing_stepped c))))

    pub stepped_exactly : (r : Refusal) → ((step f s (closing_stepped c)).reply.refusal ≡ verdict r) ↔ Due f (stepped_asks (seen s) c) (planned (plan f (seen s) (closing_stepped c))) r
    stepped_exactly r = rw told_so (guarded_exactly f (stepped_asks (seen s) c) (planned (plan f (seen s) (closing_stepped c))) (run (plan f (seen s) (closing_stepped c))) (plan_ends (plan f (seen s) (closing_stepped c))) r)

    pub stepped_taken : ((step f s (closing_stepped c)).reply.refusal ≡ taken) ↔ ((d : Cause) → Applies f (stepped_asks (seen s) c) (planned (plan f (seen s) (closing_stepped c))) d → ⊥)
    stepped_taken = rw told_so (guarded_taken f (stepped_asks (seen s) c) (planned (plan f (seen s) (closing_stepped c))) (run (plan f (seen s) (closing_stepped c))) (plan_ends (plan f (seen s) (closing_stepped c))))

-- ---- THE REQUEST'S OWN REFUSALS: 3 and 1, on any bits

-- a stepped call is not open the whole-list way, nor the other way round
stepped_whole : (t : Stage) → is_stepped t ≡ true → (is_predicting t ≡ false) × (is_correcting t ≡ false)
stepped_whole Shut h = (refl, refl)
stepped_whole Predicting h = absurd (two_ways h refl)
stepped_whole Correcting h = absurd (two_ways h refl)
stepped_whole PredictingStepped h = (refl, refl)
stepped_whole CorrectingStepped h = (refl, refl)

whole_stepped : (t : Stage) → is_stepped t ≡ false → (is_predicting_stepped t ≡ false) × (is_correcting_stepped t ≡ false)
whole_stepped Shut h = (refl, refl)
whole_stepped Predicting h = (refl, refl)
whole_stepped Correcting h = (refl, refl)
whole_stepped PredictingStepped h = absurd (two_ways refl h)
whole_stepped CorrectingStepped h = absurd (two_ways refl h)

and-false : (a : Bool) → (a && false) ≡ false
and-false true = refl
and-false false = refl

some_left : {A : Type 0} {P : A → Type 0} {l : List A} (k : List A) → Some P l → Some P (l ++ k)
some_left k (here w) = here w
some_left k (there w) = there (some_left k w)

other_than : (a b : ℕ) → a ≢ b → (a < b) ⊎ (b < a)
other_than a b n = ⊎_elim (λ h. inl h) (λ h. ⊎_elim (λ g. inr g) (λ g. absurd (n (omega arith))) (split b a)) (split a b)

module _ (f : Format) (s : Filter) where
  unfit : (c : Call) → fits c s ≡ false → (step f s c).reply.refusal ≡ verdict STAGE
  unfit c h = (stage_exactly f s c).1 h

  pub whole_close_mixed : is_stepped s.track.stage ≡ true → (c : CloseCall) → (step f s (closing c)).reply.refusal ≡ verdict STAGE
  whole_close_mixed h (close_prediction v) = unfit _ (stepped_whole s.track.stage h).0
  whole_close_mixed h (close_correction m z r kinds v) = unfit _ (stepped_whole s.track.stage h).1
  whole_close_mixed h (close_correction_flat m z r v) = unfit _ (stepped_whole s.track.stage h).1

  pub steps_unopened : is_stepped s.track.stage ≡ false → (c : StepCall) → (step f s (stepping c)).reply.refusal ≡ verdict STAGE
  steps_unopened h (ask b) = unfit (stepping (ask b)) (rw h)
  steps_unopened h (image_prediction v) = unfit (stepping (image_prediction v)) (rw (whole_stepped s.track.stage h).0)
  steps_unopened h (image_correction m v) = unfit (stepping (image_correction m v)) (rw (whole_stepped s.track.stage h).1)

  pub stepped_close_mixed : is_stepped s.track.stage ≡ false → (c : SteppedClose) → (step f s (closing_stepped c)).reply.refusal ≡ verdict STAGE
  stepped_close_mixed h close_prediction_stepped = unfit (closing_stepped close_prediction_stepped) (rw (whole_stepped s.track.stage h).0)
  stepped_close_mixed h (close_correction_stepped m z r kinds) = unfit (closing_stepped (close_correction_stepped m z r kinds)) (rw (whole_stepped s.track.stage h).1)
  stepped_close_mixed h (close_correction_flat_stepped m z r) = unfit (closing_stepped (close_correction_flat_stepped m z r)) (rw (whole_stepped s.track.stage h).1)

  pub early_close : s.track.kept.at ≤ s.sheet.n + s.sheet.n → (c : SteppedClose) → (step f s (closing_stepped c)).reply.refusal ≡ verdict STAGE
  early_close h c = unfit (closing_stepped c) (rw (le-leb _ _ h) (and-false (own_stepped c s.track.stage)))

  pub unasked : s.track.kept.asked ≡ false → (v : List Float) → ((step f s (stepping (image_prediction v))).reply.refusal ≡ verdict STAGE) × ((m : ℕ) → (step f s (stepping (image_correction m v))).reply.refusal ≡ verdict STAGE)
  unasked h v = (
    unfit (stepping (image_prediction v)) (rw (h, and-false (due s)) (and-false (is_predicting_stepped s.track.stage))),
    λ m. unfit (stepping (image_correction m v)) (rw (h, and-false (due s)) (and-false (is_correcting_stepped s.track.stage))),
  )

  pub past_the_last : s.sheet.n + s.sheet.n < s.track.kept.at → (c : StepCall) → (step f s (stepping c)).reply.refusal ≡ verdict STAGE
  past_the_last h (ask b) = unfit (stepping (ask b)) (rw (lt-leb _ _ h) (and-false (is_stepped s.track.stage)))
  past_the_last h (image_prediction v) = unfit (stepping (image_prediction v)) (rw (lt-leb _ _ h) (and-false (is_predicting_stepped s.track.stage)))
  past_the_last h (image_correction m v) = unfit (stepping (image_correction m v)) (rw (lt-leb _ _ h) (and-false (is_correcting_stepped s.track.stage)))

  -- a bad number of an image
  pub bad_image : (c : Call) → (IsOpen c → ⊥) → (i : ℕ) → Free f 6 s c → FirstBad Points i (searches s c) → ((step f s c).reply.refusal ≡ verdict (NUMBER Points i)) × ((step f s c).filter ≡ s)
  bad_image c n i h w = let e = (number_exactly f s c n Points i).1 (h, w) in (e, (refused_nothing f s c (λ z. omega (arith, number_above (NUMBER Points i), number_of e, z))).0)

  pub abandon_taken : is_shut s.track.stage ≡ false → in_range 1 8 s.sheet.n ≡ true → (step f s abandon).reply.refusal ≡ taken
  unfolding step all_finite
  abandon_taken h k = simp (h, k)

  -- another m than the first image's, by an image and by a close
  module _ (m : ℕ) (first : s.track.kept.m ≢ 0) (another : m ≢ s.track.kept.m) where
    out_of_range : Some OutOfRange (named s.track.kept m)
    out_of_range = rw (ne_eqb s.track.kept.m 0 first) (here (other_than m s.track.kept.m another))

    -- 1 where a size is out of range and the call fits
    size_so : (c : Call) → fits c s ≡ true → Some OutOfRange (asks (seen s) c).sizes → (step f s c).reply.refusal ≡ verdict SIZE
    size_so c h w = (exactly f s c SIZE).1 (record { cause = size; gives_it = refl; applies = w; no_earlier = λ d l x. absurd (only d l x) })
      where
        only : (d : Cause) → rank d < 1 → Applies f (asks (seen s) c) (planned (plan f (seen s) c)) d → ⊥
        only stage l x = two_ways ((regular f (seen s) c).fitting ∙ fits_seen s c ∙ h) x
        only size l x = absurd (omega arith)
        only short l x = absurd (omega arith)
        only form l x = absurd (omega arith)
        only stale l x = absurd (omega arith)
        only fresh l x = absurd (omega arith)
        only (Row.number t i) l x = absurd (omega arith)
        only kind l x = absurd (omega arith)
        only param l x = absurd (omega arith)
        only (met r) l x = absurd (omega arith)

    pub image_of_another : (v : List Float) → fits (stepping (image_correction m v)) s ≡ true → (step f s (stepping (image_correction m v))).reply.refusal ≡ verdict SIZE
    image_of_another v h = size_so (stepping (image_correction m v)) h (subst (λ (a : Asks). Some OutOfRange a.sizes) (observed_asks f s m v h) (there (there out_of_range)))

    pub close_of_another : (z r : List Float)
        → ((kinds : List Kind) → fits (closing_stepped (close_correction_stepped m z r kinds)) s ≡ true → (step f s (closing_stepped (close_correction_stepped m z r kinds))).reply.refusal ≡ verdict SIZE)
        × (fits (closing_stepped (close_correction_flat_stepped m z r)) s ≡ true → (step f s (closing_stepped (close_correction_flat_stepped m z r))).reply.refusal ≡ verdict SIZE)
    close_of_another z r = (
      λ kinds h. let c = close_correction_stepped m z r kinds in size_so (closing_stepped c) h (rw (own_stage s c h) (there (some_left (sized m 1 4) out_of_range))),
      λ h. let c = close_correction_flat_stepped m z r in size_so (closing_stepped c) h (rw (own_stage s c h) (there (some_left (sized m 1 4) out_of_range))),
    )
