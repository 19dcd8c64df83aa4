-- The tests, the room for the image, and what is answered. Assumes nothing.
use Rattle.std.proofs.Common.{◌≡◌, ◌&&◌, rules}
use Rattle.std.specs.Float.{binary64}
use Rattle.filter.specs.Filters.{is_predicting_stepped}
use Rattle.filter.specs.Calls.{due}
use Rattle.stepped.proofs.Steps.{predicted_refused, predicted_room, predicted_answers}
use Rattle.stepped.proofs.image_prediction.Goals as goal

pub returns-then-refusal-ne0 : goal.returns-then-refusal-ne0
returns-then-refusal-ne0 c =
    let s = c.args.f in
    let fit : c.if-is_predicting_stepped.fits ≡ (is_predicting_stepped s.track.stage && (due s && s.track.kept.asked)) = search rules in
    predicted_refused binary64 s c.args.image.now c.first_refusal-refusal.ensures c.first_bad-found.ensures fit c.is_sized-sized.ensures c.if-refusal-ne0.true

pub take_in-requires : goal.take_in-requires
take_in-requires c =
    let s = c.args.f in
    let fit : c.if-is_predicting_stepped.fits ≡ (is_predicting_stepped s.track.stage && (due s && s.track.kept.asked)) = search rules in
    predicted_room binary64 s c.args.image.now c.first_refusal-refusal.ensures c.first_bad-found.ensures fit c.is_sized-sized.ensures c.if-refusal-ne0.false

pub returns : goal.returns
returns c =
    let s = c.args.f in
    let fit : c.if-is_predicting_stepped.fits ≡ (is_predicting_stepped s.track.stage && (due s && s.track.kept.asked)) = search rules in
    predicted_answers binary64 s c.args.image.now c.first_refusal-refusal.ensures c.first_bad-found.ensures fit c.is_sized-sized.ensures c.if-refusal-ne0.false c.take_in.ensures
