-- What is open, the drawn weights, the drawn points. Assumes nothing.
use Rattle.filter.proofs.Seen.{states_seen, stage_seen, drawn_weights_seen, drawn_points_seen}
use Rattle.script.proofs.Pages.{made}
use Rattle.lines.proofs.answers.put_drawn.Goals as goal

pub returns : goal.returns
returns g c =
    let law = g.met.T.Number.floats_seen_law in
    let same = g.T.Number.same in
    let s = c.args.filter in
    let stage = c.put_stage-at.ensures in
    rw (← drawn_weights_seen law same s, ← drawn_points_seen law same s, states_seen same s, stage_seen same s, ← c.point_numbers.ensures, ← made (stage.value, stage.out_after), ← made c.put_labelled-at.ensures) c.put_labelled.ensures
