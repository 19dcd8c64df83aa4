-- The size, x and P, Q. Assumes nothing.
use Rattle.script.specs.Page.{page}
use Rattle.filter.proofs.Seen.{states_seen, q_seen}
use Rattle.script.proofs.Pages.{made}
use Rattle.lines.proofs.answers.put_values.Goals as goal

pub returns : goal.returns
returns g c =
    let law = g.met.T.Number.floats_seen_law in
    let same = g.T.Number.same in
    let s = c.args.filter in
    let zeros = c.put-at.ensures in
    record {
      counted = page c.put_decimal-at.new.out c.put_decimal-at.result;
      count = rw (← made (zeros.value, zeros.out_after)) c.put_decimal-at.ensures;
      after = rw (← q_seen law same s, ← made c.put_moments-at.ensures, states_seen same s, ← c.square.ensures) c.put_labelled.ensures;
    }
