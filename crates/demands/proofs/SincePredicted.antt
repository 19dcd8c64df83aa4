-- While a filter isn't stale, no accepted call since the close of its prediction has marked or closed; so its x and P are of its points. Assumes nothing.
use Prim.Native.Nat.{ℕ}
use mathlib.Core.Path.{◌≡◌, refl, sym, ap, ◌∙◌, subst}
use mathlib.Core.Bool.{Bool, true, false, ◌||◌}
use mathlib.Core.List.{List, [], ◌∷◌}
use mathlib.Core.Logic.{⊎_elim}
use native.Mathlib.Omega.{arith}
use lib.Ieee.{Float, Format}
use Rattle.floats.specs.Refusal.{or}
use Rattle.floats.proofs.Refusals.{number_above, number_of}
use Rattle.sigma.specs.Weights.{Params}
use Rattle.filter.specs.Types.{Filter}
use Rattle.filter.specs.declared.Stage.TheVariants.{Shut}
use Rattle.filter.specs.Filters.{sheet, track, filter, nothing_kept}
use Rattle.filter.specs.Calls.{set_x, set_p, set_q, set_params, set_kind, open_prediction, open_correction, open_prediction_stepped, open_correction_stepped, close_prediction, close_correction, close_correction_flat, close_prediction_stepped, close_correction_stepped, close_correction_flat_stepped, Call, writing, setting, stepping, closing, closing_stepped, abandon, reading}
use Rattle.filter.specs.Steps.{Stepped, step}
use Rattle.filter.specs.New.{empty, from, new_asks, new_of, new_answer}
use Rattle.demands.specs.Sound.{Yielded, fresh_made, loaded, stepped_on, put_at_will}
use Rattle.demands.specs.Settings.{sheet_marks, marks, Unmarking, with_list, in_steps, SincePredicted, predicted, unmarked, q_then, OfPoints}
use Rattle.demands.proofs.Rows.{two_ways}
use Rattle.demands.proofs.Exactly.{ends_so, refused_nothing}
use Rattle.demands.proofs.Passed.{by_cases}
use Rattle.demands.proofs.Leftover.{step_cases}
use Rattle.demands.proofs.Sound.{load_cases}
use Rattle.demands.proofs.Accepted.{prediction_closed, correction_closed, flat_correction_closed, prediction_opened, correction_opened_afresh, correction_opened, stepped_prediction_opened, stepped_correction_opened_afresh, stepped_correction_opened, stepped_closed, writing_taken, writing_marked, setting_marked}

-- without Q, what is open, what that has drawn and what it keeps
abbrev pub bare : Filter → Filter
bare s = filter (sheet s.sheet.n [] s.sheet.params s.sheet.kinds) (track s.track.x s.track.p s.track.weights s.track.points s.track.stale Shut [] [] nothing_kept)

neither : (a b : Bool) → (a || b) ≡ false → (a ≡ false) × (b ≡ false)
neither false b e = (refl, e)
neither true b e = absurd (two_ways refl e)

module _ (f : Format) (s : Filter) where
  -- ---- a call that is refused or doesn't mark leaves the rest

  pub taken_bare : (c : Call) → Unmarking c → (step f s c).reply.refusal.number ≡ 0 → bare s ≡ bare (step f s c).filter
  taken_bare (setting (set_x v)) u z = absurd (two_ways refl u)
  taken_bare (setting (set_p v)) u z = absurd (two_ways refl u)
  taken_bare (writing (set_q v)) u z = ap bare (sym (writing_taken f s (set_q v) z))
  taken_bare (writing (set_params p)) u z = absurd (two_ways refl u)
  taken_bare (writing (set_kind i k)) u z = absurd (two_ways refl u)
  taken_bare (setting (open_prediction b)) u z = ap (λ (t : Stepped). bare t.filter) (sym (prediction_opened f s b z).2)
  taken_bare (setting (open_correction b)) u z = go s.track.stale refl
    where
      go : (t : Bool) → s.track.stale ≡ t → bare s ≡ bare (step f s (setting (open_correction b))).filter
      go true h = ap (λ (t : Stepped). bare t.filter) (sym (correction_opened_afresh f s b h z).2)
      go false h = ap (λ (t : Stepped). bare t.filter) (sym (correction_opened f s b h z))
  taken_bare (setting open_prediction_stepped) u z = ap (λ (t : Stepped). bare t.filter) (sym (stepped_prediction_opened f s z).2)
  taken_bare (setting open_correction_stepped) u z = go s.track.stale refl
    where
      go : (t : Bool) → s.track.stale ≡ t → bare s ≡ bare (step f s (setting open_correction_stepped)).filter
      go true h = ap (λ (t : Stepped). bare t.filter) (sym (stepped_correction_opened_afresh f s h z).2)
      go false h = ap (λ (t : Stepped). bare t.filter) (sym (stepped_correction_opened f s h z))
  taken_bare (stepping c) u z = step_cases f s (stepping c) (λ t. bare s ≡ bare t) refl (λ d o g n. rw o.1)
  taken_bare (closing c) u z = absurd u
  taken_bare (closing_stepped c) u z = absurd u
  taken_bare abandon u z = step_cases f s abandon (λ t. bare s ≡ bare t) refl (λ d o g n. rw o)
  taken_bare (reading c) u z = step_cases f s (reading c) (λ t. bare s ≡ bare t) refl (λ d o g n. rw o)

  unmarked_bare : (c : Call) → ((step f s c).reply.refusal.number ≡ 0 → Unmarking c) → bare s ≡ bare (step f s c).filter
  unmarked_bare c h = ⊎_elim (λ e. let z = number_of e in taken_bare c (h z) z) (λ q. ap bare (sym (refused_nothing f s c (λ z. absurd (omega (arith, number_above q.0, number_of q.1, z)))).0)) (ends_so f s c)

  -- ---- a call after which the filter isn't stale: the close of a prediction, or one that is refused or doesn't mark

  module _ (y : Yielded f s) (was : s.track.stale ≡ false → SincePredicted f s) where
    abbrev So : Call → Type 0
    So c = (step f s c).filter.track.stale ≡ false → SincePredicted f (step f s c).filter

    goes_on : (c : Call) → ((step f s c).reply.refusal.number ≡ 0 → Unmarking c) → So c
    goes_on c h e = unmarked (was (ap (λ (t : Filter). t.track.stale) (unmarked_bare c h) ∙ e)) c h

    either : (c : Call) → ((step f s c).reply.refusal.number ≡ 0 → So c) → So c
    either c taken = ⊎_elim (λ e. taken (number_of e)) (λ q. goes_on c (λ z. absurd (omega (arith, number_above q.0, number_of q.1, z)))) (ends_so f s c)

    call_so : (c : Call) → So c
    call_so (writing c) = either (writing c) (λ z e. goes_on (writing c) (λ k. (neither (sheet_marks c) s.track.stale (sym (writing_marked f s c z) ∙ e)).0) e)
    call_so (setting c) = either (setting c) (λ z e. goes_on (setting c) (λ k. (neither (marks c) s.track.stale (sym (setting_marked f s c z) ∙ e)).0) e)
    call_so (closing (close_prediction v)) = either (closing (close_prediction v)) (λ z e. predicted y with_list z)
    call_so (closing (close_correction m z r kinds observed)) = either (closing (close_correction m z r kinds observed)) (λ k e. absurd (two_ways (ap (λ (t : Filter). t.track.stale) (correction_closed f s m z r kinds observed k)) e))
    call_so (closing (close_correction_flat m z r observed)) = either (closing (close_correction_flat m z r observed)) (λ k e. absurd (two_ways (ap (λ (t : Filter). t.track.stale) (flat_correction_closed f s m z r observed k)) e))
    call_so (closing_stepped close_prediction_stepped) = either (closing_stepped close_prediction_stepped) (λ z e. predicted y in_steps z)
    call_so (closing_stepped (close_correction_stepped m z r kinds)) = let c = close_correction_stepped m z r kinds in either (closing_stepped c) (λ k e. absurd (two_ways (ap (λ (t : Filter). t.track.stale) (stepped_closed f s c k)) e))
    call_so (closing_stepped (close_correction_flat_stepped m z r)) = let c = close_correction_flat_stepped m z r in either (closing_stepped c) (λ k e. absurd (two_ways (ap (λ (t : Filter). t.track.stale) (stepped_closed f s c k)) e))
    call_so (stepping c) = goes_on (stepping c) (λ z. tt)
    call_so abandon = goes_on abandon (λ z. tt)
    call_so (reading c) = goes_on (reading c) (λ z. tt)

module _ (f : Format) where
  new_stale : (n : ℕ) (x p q : List Float) (params : Params) → (new_answer f n x p q params).filter.track.stale ≡ true
  unfolding new_of
  new_stale n x p q params = by_cases (λ o. (or empty o).track.stale ≡ true) (λ r. refl) f (new_asks n (from x p ∷ []) q params) _ (λ h. refl)

  -- NOTHING BUT Q HAS BEEN SET SINCE
  pub since_predicted : {s : Filter} → Yielded f s → s.track.stale ≡ false → SincePredicted f s
  since_predicted (fresh_made n x p q params) e = absurd (two_ways (new_stale n x p q params) e)
  since_predicted (loaded b) e = absurd (two_ways (load_cases f b (λ (t : Filter). t.track.stale ≡ true) refl (λ h. refl)) e)
  since_predicted (stepped_on {s = s} y c) e = call_so f s y (λ k. since_predicted y k) c e
  since_predicted (put_at_will t y a) e = absurd (two_ways a.track.stale₂ e)

  -- X AND P ARE OF THE POINTS
  pub of_points : {s : Filter} (k : SincePredicted f s) → OfPoints f s (q_then k)
  of_points (predicted {s = s} y (with_list {v = v}) e) = subst (λ (t : Filter). OfPoints f t s.sheet.q) (sym (prediction_closed f s v e)) (record { x = refl; p = refl })
  of_points (predicted {s = s} y in_steps e) = subst (λ (t : Filter). OfPoints f t s.sheet.q) (sym (stepped_closed f s close_prediction_stepped e)) (record { x = refl; p = refl })
  of_points (unmarked {s = s} k c h) = bare_points (unmarked_bare f s c h) (of_points k)
    where
      bare_points : {t u : Filter} {q : List Float} → bare t ≡ bare u → OfPoints f t q → OfPoints f u q
      bare_points {t} {u} {q} e a = let b : OfPoints f (bare u) q = subst (λ (v : Filter). OfPoints f v q) e (record { x = a.x; p = a.p }) in record { x = b.x; p = b.p }
