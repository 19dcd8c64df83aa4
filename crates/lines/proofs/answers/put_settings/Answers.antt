-- The parameters, then the kinds. Assumes nothing.
use Rattle.filter.proofs.Seen.{states_seen}
use Rattle.script.proofs.Pages.{made}
use Rattle.filter.proofs.Opening.{params_seen}
use Rattle.lines.proofs.Seen.{kinds_seen}
use Rattle.lines.proofs.answers.put_settings.Goals as goal

pub returns : goal.returns
returns g c =
    let same = g.T.Number.same in
    let s = c.args.filter in
    let par = c.put-at.ensures in
    let kinds = c.put-at-2.ensures in
    rw (states_seen same s, kinds_seen same s, ← params_seen same s, ← made (par.value, par.out_after), ← made c.put_params-at.ensures, ← made (kinds.value, kinds.out_after)) c.put_kinds.ensures
