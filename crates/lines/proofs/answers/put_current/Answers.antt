-- The weights, the points, the mark. Assumes nothing.
use Rattle.filter.proofs.Seen.{states_seen, stale_seen, weights_seen, points_seen}
use Rattle.script.proofs.Pages.{made}
use Rattle.lines.proofs.answers.put_current.Goals as goal

pub returns : goal.returns
returns g c =
    let law = g.met.T.Number.floats_seen_law in
    let same = g.T.Number.same in
    let s = c.args.filter in
    let word = c.put-at.ensures in
    rw (← weights_seen law same s, ← points_seen law same s, states_seen same s, stale_seen same s, ← c.point_numbers.ensures, ← made c.put_labelled-at.ensures, ← made c.put_labelled-at-2.ensures, ← made (word.value, word.out_after))
    (c.put_bit.ensures.value, c.put_bit.ensures.out_after)
