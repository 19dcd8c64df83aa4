-- Past its first tests it is the whole-list close on the images. Assumes nothing.
use Rattle.std.proofs.Common.{true, refl}
use Rattle.std.specs.Float.{binary64}
use Rattle.filter.specs.Calls.{close_prediction_stepped}
use Rattle.stepped.proofs.Ways.{Tested, unready, whole_closed}
use Rattle.stepped.proofs.close_prediction.Goals as goal

pub returns-then-refusal-ne0 : goal.returns-then-refusal-ne0
returns-then-refusal-ne0 c =
    let t : Tested c.args.f close_prediction_stepped c.unready-refusal.result = record { mine = c.is_predicting_stepped-own.result; names = true; is = c.unready-refusal.ensures; mine_is = c.is_predicting_stepped-own.ensures; names_is = refl } in
    unready binary64 t c.if-refusal-ne0.true

pub returns : goal.returns
returns c =
    let t : Tested c.args.f close_prediction_stepped c.unready-refusal.result = record { mine = c.is_predicting_stepped-own.result; names = true; is = c.unready-refusal.ensures; mine_is = c.is_predicting_stepped-own.ensures; names_is = refl } in
    whole_closed binary64 t c.if-refusal-ne0.false c.at_stage-g.ensures refl c.close_prediction-a.ensures c.unless_refused.ensures
