-- `new::refused` meets its contract. Assumes nothing.
use Rattle.filter.proofs.Parts.{seen_made}
use Rattle.filter.proofs.new.refused.Goals as goal

pub returns : goal.returns
returns g c = seen_made g.T.Number.same c.answer.ensures c.empty_sheet-sheet.ensures c.empty_track-track.ensures
