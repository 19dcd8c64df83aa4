-- Document 02, A7: one point at a time, or with the whole list, it comes to the same: the same points, the same answers, the same filter. Over every format, any filter and all finite images. Assumes nothing.
use Prim.Native.Nat.{ℕ, ◌+◌, ◌*◌, ◌<◌, ◌≤◌}
use mathlib.Core.Path.{◌≡◌, refl, sym, ap, ap₂, ◌∙◌}
use mathlib.Core.Bool.{true, false}
use mathlib.Core.List.{List, [], ◌∷◌}
use mathlib.Core.Logic.{◌≢◌}
use native.Mathlib.Omega.{arith}
use borrow.Author.Tests.{eq-eqb}
use lib.ListN.{length, take, drop}
use lib.Seq.{paste}
use lib.Ieee.{Float, Format}
use Rattle.floats.specs.declared.Refusal.TheVariants.{Stage as STAGE, Size as SIZE, Number as NUMBER}
use Rattle.floats.specs.Refusal.{verdict, taken}
use Rattle.floats.specs.declared.Slice.TheVariants.{Points}
use Rattle.angles.specs.Kinds.{Kind}
use Rattle.sigma.specs.Draw.{point_numbers}
use Rattle.filter.specs.Types.{Filter}
use Rattle.filter.specs.Types.{Answer}
use Rattle.filter.specs.Asked.{in_range, within, every}
use Rattle.filter.specs.Filters.{filter, is_shut, is_stepped, keeping, nothing_kept, with_kept, abandoned}
use Rattle.filter.specs.Calls.{SheetCall, SetCall, CloseCall, ReadCall, StepCall, SteppedClose, close_correction_stepped, close_correction_flat_stepped, with_list, ask, image_prediction, image_correction, Call, writing, setting, stepping, closing, closing_stepped, abandon, reading, fits, named_by, asked_for}
use Rattle.filter.specs.Steps.{Stepped, step, answered}
use Rattle.stepped.specs.Ways.{Sort, sort_of, stepped_stage, whole_stage, at_stage, opened_at, unless_refused}
use Rattle.stepped.proofs.Ways.{closes_whole}
use Rattle.demands.specs.Rounds.{stepped_open, whole_open, handing, Images, rounds}
use Rattle.demands.specs.Rows.{FirstIn, found, Free}
use Rattle.demands.specs.Runs.{told, ran_to}
use Rattle.demands.proofs.Fine.{in_range_lem}
use Rattle.demands.proofs.Table.{stage_exactly}
use Rattle.demands.proofs.Leftover.{step_cases, abandon_open}
use Rattle.demands.proofs.Accepted.{asked_taken, image_taken, observed_taken}
use Rattle.demands.proofs.SteppedExactly.{whole_close_mixed, steps_unopened, stepped_close_mixed, early_close, unasked, past_the_last, image_of_another, close_of_another, bad_image, abandon_taken}
use Rattle.demands.proofs.Stepwise.{holding, kept_after, point_asked_lem, image_handed, rounds_to, first_kept, part_in, part_same, stepped_closes, opens_so, Opened, opens_both, opened_empty, taken_states, asked_again}

module _ (f : Format) (s : Filter) where
  -- ---- Point by point

  -- An accepted ask hands out point k of those that the call has drawn, k images being in, and sets the asked mark: nothing else changes.
  pub asking : (b : List Float) → (step f s (stepping (ask b))).reply.refusal.number ≡ 0
      → ((step f s (stepping (ask b))).reply.given ≡ take s.sheet.n (drop (s.track.kept.at * s.sheet.n) s.track.drawn_points)) × ((step f s (stepping (ask b))).filter ≡ filter s.sheet (with_kept s.track (asked_for s.track.kept)))
  asking b e = let t = asked_taken f s b e in (ap (λ (x : Stepped). x.reply.given) t, ap (λ (x : Stepped). x.filter) t)

  -- Asked for again, into whatever buffer has room, it is the same point, and nothing changes at all.
  pub asking_again : (b c : List Float) → (step f s (stepping (ask b))).reply.refusal.number ≡ 0 → s.sheet.n ≤ length c → step f (step f s (stepping (ask b))).filter (stepping (ask c)) ≡ step f s (stepping (ask b))
  asking_again b c e l = asked_again f s b c e l

  -- An accepted image stands after those before it, the step has moved on by one, the next point has to be asked for, and m is what the image names; nothing else changes.
  pub image_moves_on : (v : List Float) → (step f s (stepping (image_prediction v))).reply.refusal.number ≡ 0
      → (step f s (stepping (image_prediction v))).filter ≡ (let k = s.track.kept in filter s.sheet (with_kept s.track (keeping (k.at + 1) false 0 (paste k.images (k.at * s.sheet.n) v s.sheet.n))))
  image_moves_on v e = ap (λ (x : Stepped). x.filter) (image_taken f s v e)

  pub observed_moves_on : (m : ℕ) (v : List Float) → (step f s (stepping (image_correction m v))).reply.refusal.number ≡ 0
      → (step f s (stepping (image_correction m v))).filter ≡ (let k = s.track.kept in filter s.sheet (with_kept s.track (keeping (k.at + 1) false m (paste k.images (k.at * m) v m))))
  observed_moves_on m v e = ap (λ (x : Stepped). x.filter) (observed_taken f s m v e)

  -- An image that isn't finite is refused as it is handed in, by 54 at the place of the first bad number in this image, once nothing is refused before the search; and as any refused call it changes nothing, so that the step stays where it was and its point asked for.
  pub image_not_finite : (v : List Float) (i : ℕ) → let c = stepping (image_prediction v) in Free f 6 s c → FirstIn (take s.sheet.n v) i → ((step f s c).reply.refusal ≡ verdict (NUMBER Points i)) × ((step f s c).filter ≡ s)
  image_not_finite v i h w = bad_image f s (stepping (image_prediction v)) (λ o. elim o [ ]) i h (found w)

  pub observed_not_finite : (m : ℕ) (v : List Float) (i : ℕ) → let c = stepping (image_correction m v) in Free f 6 s c → FirstIn (take m v) i → ((step f s c).reply.refusal ≡ verdict (NUMBER Points i)) × ((step f s c).filter ≡ s)
  observed_not_finite m v i h w = bad_image f s (stepping (image_correction m v)) (λ o. elim o [ ]) i h (found w)

  -- So between asks and images may stand refused calls (`refused_changes_nothing` in Demand1), asks repeated, and readings, which change nothing:
  pub reading_changes_nothing : (c : ReadCall) → (step f s (reading c)).filter ≡ s
  reading_changes_nothing c = step_cases f s (reading c) (λ t. t ≡ s) refl (λ d o g n. rw o)

  -- while a call is open no setting and no open is taken, and no change of the sheet, and abandon is, at any step.
  pub nothing_set_meanwhile : is_shut s.track.stage ≡ false → ((c : SetCall) → (step f s (setting c)).reply.refusal ≡ verdict STAGE) × ((c : SheetCall) → (step f s (writing c)).reply.refusal ≡ verdict STAGE)
  nothing_set_meanwhile h = (λ c. (stage_exactly f s (setting c)).1 h, λ c. (stage_exactly f s (writing c)).1 h)

  pub abandon_at_any_step : is_shut s.track.stage ≡ false → in_range 1 8 s.sheet.n ≡ true → ((step f s abandon).filter ≡ abandoned s) × ((step f s abandon).reply.refusal ≡ taken)
  abandon_at_any_step h k = (abandon_open f s h k, abandon_taken f s h k)

  -- ---- Refusals: on any bits 3 is given for a call of the other way, or with nothing open,

  pub whole_close_of_stepped : is_stepped s.track.stage ≡ true → (c : CloseCall) → (step f s (closing c)).reply.refusal ≡ verdict STAGE
  whole_close_of_stepped = whole_close_mixed f s

  pub stepped_close_of_whole : is_stepped s.track.stage ≡ false → (c : SteppedClose) → (step f s (closing_stepped c)).reply.refusal ≡ verdict STAGE
  stepped_close_of_whole = stepped_close_mixed f s

  pub step_of_whole : is_stepped s.track.stage ≡ false → (c : StepCall) → (step f s (stepping c)).reply.refusal ≡ verdict STAGE
  step_of_whole = steps_unopened f s

  -- an early close,
  pub early : s.track.kept.at ≤ s.sheet.n + s.sheet.n → (c : SteppedClose) → (step f s (closing_stepped c)).reply.refusal ≡ verdict STAGE
  early = early_close f s

  -- an image whose point wasn't asked for,
  pub not_asked : s.track.kept.asked ≡ false → (v : List Float) → ((step f s (stepping (image_prediction v))).reply.refusal ≡ verdict STAGE) × ((m : ℕ) → (step f s (stepping (image_correction m v))).reply.refusal ≡ verdict STAGE)
  not_asked = unasked f s

  -- or a point asked for, or an image, after the last image;
  pub after_the_last : s.sheet.n + s.sheet.n < s.track.kept.at → (c : StepCall) → (step f s (stepping c)).reply.refusal ≡ verdict STAGE
  after_the_last = past_the_last f s

  -- and 1 where a later image's m, or the close's, differs from the first image's, once 3 doesn't stop it.
  module _ (m : ℕ) (first : s.track.kept.m ≢ 0) (another : m ≢ s.track.kept.m) where
    pub other_image : (v : List Float) → fits (stepping (image_correction m v)) s ≡ true → (step f s (stepping (image_correction m v))).reply.refusal ≡ verdict SIZE
    other_image = image_of_another f s m first another

    pub other_close : (z r : List Float)
        → ((kinds : List Kind) → let c = closing_stepped (close_correction_stepped m z r kinds) in fits c s ≡ true → (step f s c).reply.refusal ≡ verdict SIZE)
        × (let c = closing_stepped (close_correction_flat_stepped m z r) in fits c s ≡ true → (step f s c).reply.refusal ≡ verdict SIZE)
    other_close = close_of_another f s m first another

  -- ---- A STEPPED OPEN IS THE WHOLE-LIST OPEN: on any bits it answers what that one answers with room for the list; accepted, it leaves that filter, but that the call is open one point at a time, and refused, its own. Nothing is kept yet, and nothing is handed out

  pub open_is_whole : (c : Sort) (b : List Float) → point_numbers s.sheet.n ≤ length b → answered (step f s (setting (stepped_open c))) ≡ opened_at (stepped_stage c) (answered (step f s (setting (whole_open c b))))
  open_is_whole c b room = opens_so f s b room c

  pub opens_with_nothing_kept : (c : Sort) → (step f s (setting (stepped_open c))).reply.refusal.number ≡ 0 → ((step f s (setting (stepped_open c))).filter.track.kept ≡ nothing_kept) × ((step f s (setting (stepped_open c))).reply.given ≡ [])
  opens_with_nothing_kept c e = opened_empty f s c e

  -- ---- A STEPPED CLOSE IS THE WHOLE-LIST CLOSE ON THE IMAGES THAT ARE IN: on any bits, where it fits and its m is the first image's, it answers what that close answers on the filter with its call open the whole-list way; accepted, it leaves that filter, and refused, its own

  pub close_is_whole : (c : SteppedClose) → fits (closing_stepped c) s ≡ true → every within (named_by s.track.kept c) ≡ true
      → answered (step f s (closing_stepped c)) ≡ unless_refused s (answered (step f (at_stage s (whole_stage (sort_of c))) (closing (with_list c s.track.kept.images))))
  close_is_whole = closes_whole f s

  -- ---- THE TWO WAYS COME TO THE SAME, for a prediction and for a correction of m; b has room for the whole list

  module _ (o : Sort) (b : List Float) (room_b : point_numbers s.sheet.n ≤ length b) where
    -- The stepped open answers what the whole-list open does, number and place.
    pub same_open : (step f s (setting (stepped_open o))).reply.refusal ≡ (step f s (setting (whole_open o b))).reply.refusal
    same_open = ap (λ (x : Answer). x.refusal) (opens_so f s b room_b o)

    -- Opened, and with finite images i, whose list is v (there are such for every list that is long enough and finite: `images_of` in Stepwise):
    module _ (accepts : (step f s (setting (whole_open o b))).reply.refusal.number ≡ 0) (a i : ℕ → List Float) (v : List Float) (room : (k : ℕ) → k ≤ s.sheet.n + s.sheet.n → s.sheet.n ≤ length (a k)) (im : Images s.sheet.n o i v) where
      -- the filter after the stepped open and k rounds, and the one that the whole-list open leaves
      abbrev after : ℕ → Filter
      after k = ran_to f s (setting (stepped_open o) ∷ rounds o a i k)

      abbrev opened : Filter
      opened = (step f s (setting (whole_open o b))).filter

      both : Opened f s b o
      both = opens_both f s b room_b o accepts

      states : in_range 1 8 s.sheet.n ≡ true
      states = taken_states f s (setting (whole_open o b)) accepts

      reaches : (k : ℕ) → k ≤ s.sheet.n + s.sheet.n + 1 → after k ≡ holding s both.drawn o v (kept_after s both.drawn o v k)
      unfolding ran_to
      reaches k h =
          ap (λ (x : Filter). ran_to f x (rounds o a i k)) (both.stepped_left ∙ ap (holding s both.drawn o v) (sym (first_kept s both.drawn o v)))
          ∙ rounds_to f s both.drawn o v a i states im room k h

      -- point k, asked for after k rounds, is point k of the list that the whole-list open writes,
      pub same_points : (k : ℕ) → k ≤ s.sheet.n + s.sheet.n → (step f (after k) (stepping (ask (a k)))).reply ≡ record { refusal = taken; given = take s.sheet.n (drop (k * s.sheet.n) (step f s (setting (whole_open o b))).reply.given); stale = true; bytes = [] }
      same_points k h =
          ap (λ (x : Filter). (step f x (stepping (ask (a k)))).reply) (reaches k (omega arith))
          ∙ ap (λ (x : Stepped). x.reply) (point_asked_lem s both.drawn o v f a i states im room k h)
          ∙ ap (λ (l : List Float). record { refusal = taken; given = l; stale = true; bytes = [] }) (sym (part_same (k * s.sheet.n) s.sheet.n (point_numbers s.sheet.n) both.drawn.points (part_in s.sheet.n s.sheet.n k h)))
          ∙ ap (λ (x : Stepped). record { refusal = taken; given = take s.sheet.n (drop (k * s.sheet.n) x.reply.given); stale = true; bytes = [] }) (sym both.whole_is)

      -- and its image is taken;
      pub images_taken : (k : ℕ) → k ≤ s.sheet.n + s.sheet.n → (step f (step f (after k) (stepping (ask (a k)))).filter (stepping (handing o (i k)))).reply ≡ record { refusal = taken; given = []; stale = true; bytes = [] }
      images_taken k h =
          ap (λ (x : Filter). (step f (step f x (stepping (ask (a k)))).filter (stepping (handing o (i k)))).reply) (reaches k (omega arith))
          ∙ ap (λ (x : Stepped). (step f x.filter (stepping (handing o (i k)))).reply) (point_asked_lem s both.drawn o v f a i states im room k h)
          ∙ ap (λ (x : Stepped). x.reply) (image_handed f s both.drawn o v a i states im room k h)

      -- after all 2n+1 a stepped close, any of the call's sort (a correction's weighted or flat, with any z, R and kinds; and, since a refused one changes nothing, another after it),
      abbrev all_in : Filter
      all_in = after (s.sheet.n + s.sheet.n + 1)

      module _ (c : SteppedClose) (e : sort_of c ≡ o) where
        abbrev by_points : Stepped
        by_points = step f all_in (closing_stepped c)

        abbrev by_list : Stepped
        by_list = step f opened (closing (with_list c v))

        ends : answered by_points ≡ unless_refused all_in (answered by_list)
        ends =
            let w = reaches (s.sheet.n + s.sheet.n + 1) (omega arith) in
            ap (λ (x : Filter). answered (step f x (closing_stepped c))) w
            ∙ stepped_closes f s both.drawn v c e i (in_range_lem 1 8 s.sheet.n states).1 im
            ∙ ap₂ (λ (x y : Filter). unless_refused x (answered (step f y (closing (with_list c v))))) (sym w) (sym both.whole_left)

        -- gives the number and place that the close with the list gives,
        pub same_answer : by_points.reply.refusal ≡ by_list.reply.refusal
        same_answer = ap (λ (x : Answer). x.refusal) ends

        -- and, accepted, leaves the same filter in every bit;
        pub same_filter : by_list.reply.refusal.number ≡ 0 → by_points.filter ≡ by_list.filter
        same_filter z = ap (λ (x : Answer). x.filter) ends ∙ rw (eq-eqb _ 0 z)

        -- so every later answer is the same.
        pub same_later : by_list.reply.refusal.number ≡ 0 → (cs : List Call) → told f by_points.filter cs ≡ told f by_list.filter cs
        same_later z cs = ap (λ (x : Filter). told f x cs) (same_filter z)

      -- Given up in place of that, both are again the filter that was opened, with nothing in scratch.
      pub same_abandoned : (abandoned all_in ≡ abandoned s) × (abandoned opened ≡ abandoned s)
      same_abandoned = (ap abandoned (reaches (s.sheet.n + s.sheet.n + 1) (omega arith)), ap abandoned both.whole_left)
