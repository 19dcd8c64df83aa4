-- Ask and image as the code takes them: what their tests have told, where they go on, and what they answer. Assumes nothing.
use Prim.Native.Nat.{ℕ, ◌+◌, ◌*◌, ◌≤◌}
use mathlib.Core.Path.{◌≡◌, refl, sym, ap, ◌∙◌}
use mathlib.Core.Bool.{Bool, true, false, ◌&&◌}
use mathlib.Core.List.{List, ◌++◌}
use native.Mathlib.Omega.{arith}
use borrow.Author.Tests.{leb-true}
use lib.Dec.{leb}
use lib.ListN.{length, take, drop, length-drop}
use lib.Seq.{paste}
use lib.Ieee.{Float, Format}
use Rattle.floats.specs.declared.Slice.TheVariants.{Points}
use Rattle.floats.specs.declared.Verdict.{Verdict}
use Rattle.floats.specs.Refusal.{taken, earlier, refusal, nothing}
use Rattle.floats.specs.Search.{input, searched}
use Rattle.floats.specs.Fronts.{front, over}
use Rattle.floats.proofs.Fronts.{front_over}
use Rattle.filter.specs.Types.{Filter}
use Rattle.filter.specs.Types.{Answer}
use Rattle.filter.specs.Asked.{in_range, within, every, in_order, first_refusal}
use Rattle.filter.specs.Filters.{is_stepped, is_predicting_stepped, is_correcting_stepped, filter, with_kept}
use Rattle.filter.specs.Calls.{Call, stepping, ask, image_prediction, image_correction, sized, named, due, fits, asking, asked_for, handed_in, asks}
use Rattle.filter.specs.Calls as calls
use Rattle.filter.specs.Steps.{step, answered}
use Rattle.filter.proofs.Sizes.{and_left, and_right, and_true, range_le, product_le}
use Rattle.filter.proofs.Order.{none, tested, tested_early}
use Rattle.filter.proofs.Lines.{sized_le, long_le}
use Rattle.filter.proofs.Taken.{Told, answering, refused_before, turned_away, all_passed, told_taken, finished, by_step}
use Rattle.stepped.proofs.Seen.{fits_seen, seen_so, asked_is, predicted_is, observed_is, observed_asks}

pasted_over : (b v : List Float) (k : ℕ) → k ≤ length v → paste b 0 v k ≡ over (take k v) b
unfolding front
pasted_over b v k h = let z : 0 + k ≡ k = omega arith in ap (λ (j : ℕ). take k v ++ drop j b) z ∙ front_over k v b h

module _ (f : Format) (s : Filter) where
  -- ---- ask
  module _ (b : List Float) {v : Verdict} {fit size : Bool} (e : v ≡ refusal (in_order fit size (leb s.sheet.n (length b)) true false false nothing true true nothing))
      (g : fit ≡ (is_stepped s.track.stage && due s)) (h : size ≡ in_range 1 8 s.sheet.n) where
    abbrev asked : Told f s (stepping (ask b))
    asked = record {
      told = v;
      is =
          tested_early f (asks s (stepping (ask b))) nothing e g (h ∙ sym (and_true _)) (λ h. sym (and_true _)) refl refl refl (λ h. none) refl (λ h. refl)
          ∙ ap (λ (t : Bool). first_refusal f (asking t s.sheet.n (calls.needs s (stepping (ask b))))) (sym (fits_seen s (stepping (ask b))));
    }

    pub ask_refused : (v.number ≡ 0 → ⊥) → (answering v s ≡ answered (step f s (stepping (ask b)))) × (b ≡ over (step f s (stepping (ask b))).reply.given b)
    ask_refused n = by_step asked b (refused_before asked n) refl refl

    module _ (z : v.number ≡ 0) where
      ask_fits : (is_stepped s.track.stage && due s) ≡ true
      ask_fits = sym (fits_seen s (stepping (ask b))) ∙ (all_passed asked z).fits

      -- the point that is due lies within those drawn
      pub ask_within : (s.track.kept.at * s.sheet.n + s.sheet.n ≤ 136) × (s.sheet.n ≤ length b)
      ask_within =
          let p = all_passed asked z in
          let h = sized_le f p in
          let l = leb-true s.track.kept.at (s.sheet.n + s.sheet.n) (and_right (is_stepped s.track.stage) _ ask_fits) in
          (omega (arith, product_le s.track.kept.at s.sheet.n 16 8 (omega (arith, l, h)) h, h), long_le f p)

      pub ask_answers : {d out : List Float} → d ≡ s.track.drawn_points → s.track.kept.at * s.sheet.n + s.sheet.n ≤ length d → out ≡ paste b 0 (drop (s.track.kept.at * s.sheet.n) d) s.sheet.n
          → (answering v (filter s.sheet (with_kept s.track (asked_for s.track.kept))) ≡ answered (step f s (stepping (ask b)))) × (out ≡ over (step f s (stepping (ask b))).reply.given b)
      ask_answers {d} {out} q l o =
          let i = s.track.kept.at * s.sheet.n in
          by_step asked b (finished asked z (asked_is f s b (and_left (is_stepped s.track.stage) _ ask_fits)))
          (ap (λ (x : Verdict). answering x (filter s.sheet (with_kept s.track (asked_for s.track.kept)))) (told_taken asked z))
          (o ∙ pasted_over b (drop i d) s.sheet.n (omega (arith, length-drop i d)) ∙ ap (λ (u : List Float). over (take s.sheet.n (drop i u)) b) q)

  -- ---- an image of a prediction's point
  module _ (image : List Float) {v found : Verdict} {fit size : Bool}
      (e : v ≡ earlier (refusal (in_order fit size (leb s.sheet.n (length image)) true false false nothing true true nothing)) (earlier found (refusal (in_order true true true true false false nothing true true nothing))))
      (d : found ≡ refusal (searched (input Points (take s.sheet.n image))))
      (g : fit ≡ (is_predicting_stepped s.track.stage && (due s && s.track.kept.asked))) (h : size ≡ in_range 1 8 s.sheet.n) where
    abbrev predicted : Told f s (stepping (image_prediction image))
    predicted = record {
      told = v;
      is =
          tested f (asks s (stepping (image_prediction image))) _ e d g (h ∙ sym (and_true _)) (λ h. sym (and_true _)) refl refl refl (λ h. refl) refl (λ h. refl)
          ∙ ap (λ (t : Bool). first_refusal f (asking t s.sheet.n (calls.needs s (stepping (image_prediction image))))) (sym (fits_seen s (stepping (image_prediction image))));
    }

    pub predicted_refused : (v.number ≡ 0 → ⊥) → answering v s ≡ answered (step f s (stepping (image_prediction image)))
    predicted_refused n = turned_away predicted n

    module _ (z : v.number ≡ 0) where
      predicted_fits : (is_predicting_stepped s.track.stage && (due s && s.track.kept.asked)) ≡ true
      predicted_fits = sym (fits_seen s (stepping (image_prediction image))) ∙ (all_passed predicted z).fits

      pub predicted_room : (s.sheet.n ≤ 8) × (s.track.kept.at ≤ 16) × (s.sheet.n ≤ length image)
      predicted_room =
          let p = all_passed predicted z in
          let l = leb-true s.track.kept.at (s.sheet.n + s.sheet.n) (and_left (due s) _ (and_right (is_predicting_stepped s.track.stage) _ predicted_fits)) in
          (sized_le f p, omega (arith, l, sized_le f p), long_le f p)

      pub predicted_answers : {a : Answer} → a ≡ answering taken (filter s.sheet (with_kept s.track (handed_in s.track.kept 0 s.sheet.n image))) → a ≡ answered (step f s (stepping (image_prediction image)))
      predicted_answers q = q ∙ sym (ap answered (finished predicted z (predicted_is f s image (and_left (is_predicting_stepped s.track.stage) _ predicted_fits))))

  -- ---- an image of a correction's point
  module _ (m : ℕ) (image : List Float) {v found : Verdict} {fit size : Bool}
      (e : v ≡ earlier (refusal (in_order fit size (leb m (length image)) true false false nothing true true nothing)) (earlier found (refusal (in_order true true true true false false nothing true true nothing))))
      (d : found ≡ refusal (searched (input Points (take m image))))
      (g : fit ≡ (is_correcting_stepped s.track.stage && (due s && s.track.kept.asked))) (h : size ≡ (in_range 1 8 s.sheet.n && every within (sized m 1 4 ++ named s.track.kept m))) where
    abbrev observed : Told f s (stepping (image_correction m image))
    observed = record {
      told = v;
      is =
          tested f (asks s (stepping (image_correction m image))) _ e d g h (λ h. sym (and_true _)) refl refl refl (λ h. refl) refl (λ h. refl)
          ∙ seen_so f s (stepping (image_correction m image)) (observed_asks f s m image);
    }

    pub observed_refused : (v.number ≡ 0 → ⊥) → answering v s ≡ answered (step f s (stepping (image_correction m image)))
    observed_refused n = turned_away observed n

    module _ (z : v.number ≡ 0) where
      observed_fits : (is_correcting_stepped s.track.stage && (due s && s.track.kept.asked)) ≡ true
      observed_fits = sym (fits_seen s (stepping (image_correction m image))) ∙ (all_passed observed z).fits

      pub observed_room : (m ≤ 8) × (s.track.kept.at ≤ 16) × (m ≤ length image)
      observed_room =
          let p = all_passed observed z in
          let k = range_le 1 4 m (and_left (in_range 1 4 m) _ (and_right (in_range 1 8 s.sheet.n) _ p.sized)) in
          let l = leb-true s.track.kept.at (s.sheet.n + s.sheet.n) (and_left (due s) _ (and_right (is_correcting_stepped s.track.stage) _ observed_fits)) in
          (omega (arith, k), omega (arith, l, sized_le f p), long_le f p)

      pub observed_answers : {a : Answer} → a ≡ answering taken (filter s.sheet (with_kept s.track (handed_in s.track.kept m m image))) → a ≡ answered (step f s (stepping (image_correction m image)))
      observed_answers q = q ∙ sym (ap answered (finished observed z (observed_is f s m image (and_left (is_correcting_stepped s.track.stage) _ observed_fits))))
