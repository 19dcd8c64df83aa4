-- Refused before the draw, or the current weights and points, or those drawn afresh.
use mathlib.Core.Path.{◌≡◌, sym, ap, ap₂, ◌∙◌}
use mathlib.Core.Bool.{Bool, true, false, not, ◌&&◌}
use mathlib.Core.List.{List}
use borrow.Author.Rules.{rules}
use Rattle.floats.specs.declared.Verdict.{Verdict}
use Rattle.floats.specs.Refusal.{accepted}
use Rattle.matrix.proofs.Generic.{was_accepted, was_refused}
use Rattle.sigma.specs.Weights.{weights_of}
use Rattle.filter.specs.declared.Filter.{Filter}
use Rattle.filter.specs.declared.Answer.{Answer}
use Rattle.filter.specs.Filters.{is_correcting}
use Rattle.filter.proofs.Taken.{answering, sent_back}
use Rattle.filter.proofs.Seen.{seen_answer, states_seen, stale_seen, x_seen, p_seen, weights_seen, points_seen}
use Rattle.filter.proofs.Opening.{open_told, open_room, opening_refused, opening_stopped, opening_gave, opening_made, drawing_is, params_seen}
use Rattle.filter.proofs.Filter.open.Goals as goal
use Rattle.filter.proofs.Filter.open.Goals.{then-is_correcting, else-is_correcting}

and_passed : {a b v : Bool} → a ≡ true → v ≡ b → v ≡ (a && b)
and_passed e q = rw e q

and_failed : {a v : Bool} (b : Bool) → a ≡ false → v ≡ a → v ≡ (a && b)
and_failed b e q = rw e (q ∙ e)

pub returns-then-refusal-ne0-clause-value : goal.returns-then-refusal-ne0-clause-value
returns-then-refusal-ne0-clause-value g c =
    let n = g.met.T.Number in
    let f = g.T.Number.floats in
    let same = g.T.Number.same in
    let s = c.args.self.now in
    let t = c.args.stage in
    let b = f c.args.out.now in
    let told = open_told same n.floats_law g.T.Number.format s t c.args.out.now c.is_shut-shut.ensures c.is_sized-sized.ensures c.point_numbers-k.ensures c.early_refusal-refusal.ensures in
    sent_back same told c.answer.ensures c.if-refusal-ne0.true

pub returns-then-refusal-ne0-clause-out_after : goal.returns-then-refusal-ne0-clause-out_after
returns-then-refusal-ne0-clause-out_after g c =
    let n = g.met.T.Number in
    let f = g.T.Number.floats in
    let same = g.T.Number.same in
    let s = c.args.self.now in
    let t = c.args.stage in
    let b = f c.args.out.now in
    let told = open_told same n.floats_law g.T.Number.format s t c.args.out.now c.is_shut-shut.ensures c.is_sized-sized.ensures c.point_numbers-k.ensures c.early_refusal-refusal.ensures in
    (opening_refused t b told c.if-refusal-ne0.true).1

pub opened-requires : goal.opened-requires
opened-requires g c =
    let n = g.met.T.Number in
    let f = g.T.Number.floats in
    let same = g.T.Number.same in
    let s = c.args.self.now in
    let t = c.args.stage in
    let b = f c.args.out.now in
    let told = open_told same n.floats_law g.T.Number.format s t c.args.out.now c.is_shut-shut.ensures c.is_sized-sized.ensures c.point_numbers-k.ensures c.early_refusal-refusal.ensures in
    let room = open_room same n.floats_law g.T.Number.format s t c.args.out.now told c.if-refusal-ne0.false in
    (search rules, (search rules, (search rules, (search rules, (room.0, room.1)))))

pub returns-then-current-clause-value : goal.returns-then-current-clause-value
returns-then-current-clause-value g c =
    let n = g.met.T.Number in
    let f = g.T.Number.floats in
    let same = g.T.Number.same in
    let s = c.args.self.now in
    let t = c.args.stage in
    let b = f c.args.out.now in
    let told = open_told same n.floats_law g.T.Number.format s t c.args.out.now c.is_shut-shut.ensures c.is_sized-sized.ensures c.point_numbers-k.ensures c.early_refusal-refusal.ensures in
    let current : c.if-is_correcting.current ≡ (is_correcting t && not (g.T.Number.seen Filter s).track.stale) =
    elim c.if-is_correcting.branch [ then-is_correcting w ↦ and_passed (sym c.is_correcting.ensures ∙ w.if-is_correcting.true) (w.current-is ∙ ap not (sym (stale_seen same s))) | else-is_correcting w ↦ and_failed _ (sym c.is_correcting.ensures ∙ w.if-is_correcting.false) (w.current-is ∙ c.is_correcting.ensures) ] in
    (opening_gave t b told c.if-refusal-ne0.false c.requires (sym (states_seen same s)) c.opened.ensures.value c.opened.ensures.out_after (sym current ∙ c.if-current.true) (weights_seen n.floats_seen_law same s) (points_seen n.floats_seen_law same s)).0

pub returns-then-current-clause-out_after : goal.returns-then-current-clause-out_after
returns-then-current-clause-out_after g c =
    let n = g.met.T.Number in
    let f = g.T.Number.floats in
    let same = g.T.Number.same in
    let s = c.args.self.now in
    let t = c.args.stage in
    let b = f c.args.out.now in
    let told = open_told same n.floats_law g.T.Number.format s t c.args.out.now c.is_shut-shut.ensures c.is_sized-sized.ensures c.point_numbers-k.ensures c.early_refusal-refusal.ensures in
    let current : c.if-is_correcting.current ≡ (is_correcting t && not (g.T.Number.seen Filter s).track.stale) =
    elim c.if-is_correcting.branch [ then-is_correcting w ↦ and_passed (sym c.is_correcting.ensures ∙ w.if-is_correcting.true) (w.current-is ∙ ap not (sym (stale_seen same s))) | else-is_correcting w ↦ and_failed _ (sym c.is_correcting.ensures ∙ w.if-is_correcting.false) (w.current-is ∙ c.is_correcting.ensures) ] in
    (opening_gave t b told c.if-refusal-ne0.false c.requires (sym (states_seen same s)) c.opened.ensures.value c.opened.ensures.out_after (sym current ∙ c.if-current.true) (weights_seen n.floats_seen_law same s) (points_seen n.floats_seen_law same s)).1

pub scale-scale-requires : goal.scale-scale-requires
scale-scale-requires g c =
    let n = g.met.T.Number in
    let f = g.T.Number.floats in
    let same = g.T.Number.same in
    let s = c.args.self.now in
    let t = c.args.stage in
    let b = f c.args.out.now in
    let told = open_told same n.floats_law g.T.Number.format s t c.args.out.now c.is_shut-shut.ensures c.is_sized-sized.ensures c.point_numbers-k.ensures c.early_refusal-refusal.ensures in
    (open_room same n.floats_law g.T.Number.format s t c.args.out.now told c.if-refusal-ne0.false).0

pub generate_sigma_points-requires : goal.generate_sigma_points-requires
generate_sigma_points-requires g c =
    let n = g.met.T.Number in
    let f = g.T.Number.floats in
    let same = g.T.Number.same in
    let s = c.args.self.now in
    let t = c.args.stage in
    let b = f c.args.out.now in
    let told = open_told same n.floats_law g.T.Number.format s t c.args.out.now c.is_shut-shut.ensures c.is_sized-sized.ensures c.point_numbers-k.ensures c.early_refusal-refusal.ensures in
    let h = (open_room same n.floats_law g.T.Number.format s t c.args.out.now told c.if-refusal-ne0.false).0 in
    (search rules, (search rules, (search rules, h)))

pub weights-requires : goal.weights-requires
weights-requires g c =
    let n = g.met.T.Number in
    let f = g.T.Number.floats in
    let same = g.T.Number.same in
    let s = c.args.self.now in
    let t = c.args.stage in
    let b = f c.args.out.now in
    let told = open_told same n.floats_law g.T.Number.format s t c.args.out.now c.is_shut-shut.ensures c.is_sized-sized.ensures c.point_numbers-k.ensures c.early_refusal-refusal.ensures in
    let h = (open_room same n.floats_law g.T.Number.format s t c.args.out.now told c.if-refusal-ne0.false).0 in
    (search rules, h)

pub opened-requires-in-Ok : goal.opened-requires-in-Ok
opened-requires-in-Ok g c =
    let n = g.met.T.Number in
    let f = g.T.Number.floats in
    let same = g.T.Number.same in
    let s = c.args.self.now in
    let t = c.args.stage in
    let b = f c.args.out.now in
    let told = open_told same n.floats_law g.T.Number.format s t c.args.out.now c.is_shut-shut.ensures c.is_sized-sized.ensures c.point_numbers-k.ensures c.early_refusal-refusal.ensures in
    let room = open_room same n.floats_law g.T.Number.format s t c.args.out.now told c.if-refusal-ne0.false in
    (search rules, (search rules, (search rules, (search rules, (room.0, room.1)))))

pub returns-in-Ok-clause-value : goal.returns-in-Ok-clause-value
returns-in-Ok-clause-value g c =
    let n = g.met.T.Number in
    let f = g.T.Number.floats in
    let same = g.T.Number.same in
    let s = c.args.self.now in
    let t = c.args.stage in
    let b = f c.args.out.now in
    let told = open_told same n.floats_law g.T.Number.format s t c.args.out.now c.is_shut-shut.ensures c.is_sized-sized.ensures c.point_numbers-k.ensures c.early_refusal-refusal.ensures in
    let current : c.if-is_correcting.current ≡ (is_correcting t && not (g.T.Number.seen Filter s).track.stale) =
    elim c.if-is_correcting.branch [ then-is_correcting w ↦ and_passed (sym c.is_correcting.ensures ∙ w.if-is_correcting.true) (w.current-is ∙ ap not (sym (stale_seen same s))) | else-is_correcting w ↦ and_failed _ (sym c.is_correcting.ensures ∙ w.if-is_correcting.false) (w.current-is ∙ c.is_correcting.ensures) ] in
    let drawn = drawing_is g.T.Number.format (g.T.Number.seen Filter s) (sym (states_seen same s)) (x_seen n.floats_seen_law same s) (p_seen n.floats_seen_law same s) c.scale-scale.ensures (params_seen same s) in
    (opening_made t b told c.if-refusal-ne0.false c.requires (sym (states_seen same s)) c.opened-in-Ok.ensures.value c.opened-in-Ok.ensures.out_after (sym current ∙ c.if-current.false)
    (c.weights.ensures ∙ ap₂ (weights_of g.T.Number.format) (sym (states_seen same s)) (params_seen same s))
    (ap accepted (n.floats_seen_law _) ∙ was_accepted same List c.generate_sigma_points.ensures c.in-Ok.is ∙ drawn)).0

pub returns-in-Ok-clause-out_after : goal.returns-in-Ok-clause-out_after
returns-in-Ok-clause-out_after g c =
    let n = g.met.T.Number in
    let f = g.T.Number.floats in
    let same = g.T.Number.same in
    let s = c.args.self.now in
    let t = c.args.stage in
    let b = f c.args.out.now in
    let told = open_told same n.floats_law g.T.Number.format s t c.args.out.now c.is_shut-shut.ensures c.is_sized-sized.ensures c.point_numbers-k.ensures c.early_refusal-refusal.ensures in
    let current : c.if-is_correcting.current ≡ (is_correcting t && not (g.T.Number.seen Filter s).track.stale) =
    elim c.if-is_correcting.branch [ then-is_correcting w ↦ and_passed (sym c.is_correcting.ensures ∙ w.if-is_correcting.true) (w.current-is ∙ ap not (sym (stale_seen same s))) | else-is_correcting w ↦ and_failed _ (sym c.is_correcting.ensures ∙ w.if-is_correcting.false) (w.current-is ∙ c.is_correcting.ensures) ] in
    let drawn = drawing_is g.T.Number.format (g.T.Number.seen Filter s) (sym (states_seen same s)) (x_seen n.floats_seen_law same s) (p_seen n.floats_seen_law same s) c.scale-scale.ensures (params_seen same s) in
    (opening_made t b told c.if-refusal-ne0.false c.requires (sym (states_seen same s)) c.opened-in-Ok.ensures.value c.opened-in-Ok.ensures.out_after (sym current ∙ c.if-current.false)
    (c.weights.ensures ∙ ap₂ (weights_of g.T.Number.format) (sym (states_seen same s)) (params_seen same s))
    (ap accepted (n.floats_seen_law _) ∙ was_accepted same List c.generate_sigma_points.ensures c.in-Ok.is ∙ drawn)).1

pub returns-in-Err-clause-value : goal.returns-in-Err-clause-value
returns-in-Err-clause-value g c =
    let n = g.met.T.Number in
    let f = g.T.Number.floats in
    let same = g.T.Number.same in
    let s = c.args.self.now in
    let t = c.args.stage in
    let b = f c.args.out.now in
    let told = open_told same n.floats_law g.T.Number.format s t c.args.out.now c.is_shut-shut.ensures c.is_sized-sized.ensures c.point_numbers-k.ensures c.early_refusal-refusal.ensures in
    let current : c.if-is_correcting.current ≡ (is_correcting t && not (g.T.Number.seen Filter s).track.stale) =
    elim c.if-is_correcting.branch [ then-is_correcting w ↦ and_passed (sym c.is_correcting.ensures ∙ w.if-is_correcting.true) (w.current-is ∙ ap not (sym (stale_seen same s))) | else-is_correcting w ↦ and_failed _ (sym c.is_correcting.ensures ∙ w.if-is_correcting.false) (w.current-is ∙ c.is_correcting.ensures) ] in
    let drawn = drawing_is g.T.Number.format (g.T.Number.seen Filter s) (sym (states_seen same s)) (x_seen n.floats_seen_law same s) (p_seen n.floats_seen_law same s) c.scale-scale.ensures (params_seen same s) in
    ap (g.T.Number.seen Answer) c.answer-in-Err.ensures ∙ seen_answer same _ _ ∙ ap (λ (v : Verdict). answering v (g.T.Number.seen Filter s)) c.verdict.ensures
    ∙ (opening_stopped t b told c.if-refusal-ne0.false (sym current ∙ c.if-current.false) (was_refused same List c.generate_sigma_points.ensures c.in-Err.is ∙ drawn)).0

pub returns-in-Err-clause-out_after : goal.returns-in-Err-clause-out_after
returns-in-Err-clause-out_after g c =
    let n = g.met.T.Number in
    let f = g.T.Number.floats in
    let same = g.T.Number.same in
    let s = c.args.self.now in
    let t = c.args.stage in
    let b = f c.args.out.now in
    let told = open_told same n.floats_law g.T.Number.format s t c.args.out.now c.is_shut-shut.ensures c.is_sized-sized.ensures c.point_numbers-k.ensures c.early_refusal-refusal.ensures in
    let current : c.if-is_correcting.current ≡ (is_correcting t && not (g.T.Number.seen Filter s).track.stale) =
    elim c.if-is_correcting.branch [ then-is_correcting w ↦ and_passed (sym c.is_correcting.ensures ∙ w.if-is_correcting.true) (w.current-is ∙ ap not (sym (stale_seen same s))) | else-is_correcting w ↦ and_failed _ (sym c.is_correcting.ensures ∙ w.if-is_correcting.false) (w.current-is ∙ c.is_correcting.ensures) ] in
    let drawn = drawing_is g.T.Number.format (g.T.Number.seen Filter s) (sym (states_seen same s)) (x_seen n.floats_seen_law same s) (p_seen n.floats_seen_law same s) c.scale-scale.ensures (params_seen same s) in
    (opening_stopped t b told c.if-refusal-ne0.false (sym current ∙ c.if-current.false) (was_refused same List c.generate_sigma_points.ensures c.in-Err.is ∙ drawn)).1
