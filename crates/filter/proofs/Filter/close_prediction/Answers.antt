-- What is lent is taken in, the steps work from it, and what they make is installed.
use native.Mathlib.Omega.{arith}
use borrow.Author.Rules.{rules}
use denote.Param.{layout}
use Rattle.floats.proofs.Numbers.{floats_long}
use Rattle.filter.proofs.Taken.{sent_back}
use Rattle.filter.proofs.Closing.{prediction_told, prediction_sized, prediction_room, prediction_closed}
use Rattle.filter.proofs.Room.{numbers_fit, state_kinds_fit, moments_room}
use Rattle.filter.proofs.Filter.close_prediction.Goals as goal

pub returns-then-refusal-ne0 : goal.returns-then-refusal-ne0
returns-then-refusal-ne0 g c =
    let n = g.T.Number in
    sent_back n.same (prediction_told g.met.T.Number.floats_seen_law n.same n.format c.args.self (n.floats c.args.points.now) c.is_predicting-predicting.ensures c.point_numbers-k.ensures c.slice_refusal-refusal.ensures) c.answer.ensures c.if-refusal-ne0.true

pub filled-propagated-requires : goal.filled-propagated-requires
filled-propagated-requires g c =
    let n = g.T.Number in
    let room = prediction_room g.met.T.Number.floats_seen_law n.same n.format c.args.self (n.floats c.args.points.now) c.is_predicting-predicting.ensures c.point_numbers-k.ensures c.slice_refusal-refusal.ensures c.if-refusal-ne0.false in
    (omega (arith, numbers_fit (layout g.row.T) (search rules)), (omega (arith, room.0, floats_long g.met.T.Number.floats_law c.args.points.now), omega (arith, room.1)))

pub center_weight-w0m-requires : goal.center_weight-w0m-requires
center_weight-w0m-requires g c =
    let n = g.T.Number in
    (search rules, prediction_sized g.met.T.Number.floats_seen_law n.same n.format c.args.self (n.floats c.args.points.now) c.is_predicting-predicting.ensures c.point_numbers-k.ensures c.slice_refusal-refusal.ensures c.if-refusal-ne0.false)

pub reconstruct_prediction-made-requires : goal.reconstruct_prediction-made-requires
reconstruct_prediction-made-requires g c =
    let n = g.T.Number in
    let sized = prediction_sized g.met.T.Number.floats_seen_law n.same n.format c.args.self (n.floats c.args.points.now) c.is_predicting-predicting.ensures c.point_numbers-k.ensures c.slice_refusal-refusal.ensures c.if-refusal-ne0.false in
    let τ = layout g.row.T in
    let h = numbers_fit τ (search rules) in
    (omega (arith, h), (omega (arith, h), (state_kinds_fit τ (search rules), (omega (arith, h), (moments_room τ (search rules), sized)))))

pub close-requires : goal.close-requires
close-requires g c =
    let τ = layout g.row.T in
    (search rules, (moments_room τ (search rules), (omega (arith, numbers_fit τ (search rules)), search rules)))

pub returns : goal.returns
returns g c =
    let n = g.T.Number in
    prediction_closed g.met.T.Number.floats_seen_law n.same n.format c.args.self (n.floats c.args.points.now) c.is_predicting-predicting.ensures c.point_numbers-k.ensures c.slice_refusal-refusal.ensures c.if-refusal-ne0.false
    c.filled-propagated.ensures c.center_weight-w0m.ensures c.reconstruct_prediction-made.ensures c.close.ensures
