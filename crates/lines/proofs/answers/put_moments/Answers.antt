-- x, then P. Assumes nothing.
use Rattle.filter.proofs.Seen.{states_seen, x_seen, p_seen}
use Rattle.script.proofs.Pages.{made}
use Rattle.lines.proofs.answers.put_moments.Goals as goal

pub returns : goal.returns
returns g c =
    let law = g.met.T.Number.floats_seen_law in
    let same = g.T.Number.same in
    let s = c.args.filter in
    rw (← x_seen law same s, ← p_seen law same s, states_seen same s, ← c.square.ensures, ← made c.put_labelled-at.ensures) c.put_labelled.ensures
