-- The values, the settings, what is current, what is drawn. Assumes nothing.
use Rattle.filter.proofs.Seen.{states_seen}
use Rattle.script.proofs.Pages.{made}
use Rattle.lines.proofs.answers.put_filter.Goals as goal

pub returns : goal.returns
returns g c =
    let values = c.put_values-at.ensures in
    record {
      counted = values.counted;
      count = rw (states_seen g.T.Number.same c.args.filter) values.count;
      after = rw (← made values.after, ← made c.put_settings-at.ensures, ← made c.put_current-at.ensures) c.put_drawn.ensures;
    }
