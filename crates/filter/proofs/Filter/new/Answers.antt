-- `Filter::new` meets its contract: by those of its parts. Assumes nothing.
use Rattle.std.proofs.Common.{rules, refl, ◌∙◌}
use Rattle.filter.proofs.Parts.{both_told, none_made, all_made, seen_made}
use Rattle.filter.proofs.Filter.new.Goals as goal

pub returns-then-refusal-ne0 : goal.returns-then-refusal-ne0
returns-then-refusal-ne0 g c = c.refused.ensures ∙ none_made g.T.Number.format c.args.n _ _ _ _ c.track_refusal.ensures c.sheet_refusal-of_sheet.ensures c.sooner-refusal.ensures c.if-refusal-ne0.true

pub sheet_from-sheet-requires : goal.sheet_from-sheet-requires
sheet_from-sheet-requires g c = (search rules, (both_told g.T.Number.format c.args.n _ _ _ _ c.track_refusal.ensures c.sheet_refusal-of_sheet.ensures c.sooner-refusal.ensures c.if-refusal-ne0.false).1)

pub track_from-track-requires : goal.track_from-track-requires
track_from-track-requires g c = (search rules, (both_told g.T.Number.format c.args.n _ _ _ _ c.track_refusal.ensures c.sheet_refusal-of_sheet.ensures c.sooner-refusal.ensures c.if-refusal-ne0.false).0)

pub returns : goal.returns
returns g c =
    seen_made g.T.Number.same refl c.sheet_from-sheet.ensures c.track_from-track.ensures
    ∙ all_made g.T.Number.format c.args.n _ _ _ _ c.track_refusal.ensures c.sheet_refusal-of_sheet.ensures c.sooner-refusal.ensures c.if-refusal-ne0.false
