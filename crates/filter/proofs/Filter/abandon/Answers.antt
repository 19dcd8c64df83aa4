-- Refused, or shut with scratch at +0.
use mathlib.Core.Path.{refl, sym, ap, ap₂, ◌∙◌}
use Rattle.filter.specs.declared.Answer.{Answer}
use Rattle.filter.specs.Filters.{filter, shut}
use Rattle.filter.proofs.Seen.{seen_filter, seen_answer, sheet_seen, track_seen}
use Rattle.filter.proofs.Taken.{answering, sent_back, has_finished}
use Rattle.filter.proofs.Opening.{abandon_told}
use Rattle.filter.proofs.Filter.abandon.Goals as goal

pub returns-then-refusal-ne0 : goal.returns-then-refusal-ne0
returns-then-refusal-ne0 g c =
    let same = g.T.Number.same in
    let s = c.args.self in
    let told = abandon_told same g.T.Number.format s c.is_shut-shut.ensures c.is_sized-sized.ensures c.early_refusal-refusal.ensures in
    sent_back same told c.answer.ensures c.if-refusal-ne0.true

pub returns : goal.returns
returns g c =
    let same = g.T.Number.same in
    let s = c.args.self in
    let told = abandon_told same g.T.Number.format s c.is_shut-shut.ensures c.is_sized-sized.ensures c.early_refusal-refusal.ensures in
    ap (g.T.Number.seen Answer) c.answer-2.ensures ∙ seen_answer same _ _
    ∙ ap (answering c.early_refusal-refusal.result) (seen_filter same _ _ ∙ ap₂ filter (sym (sheet_seen same s)) (c.shut-track.ensures ∙ ap shut (sym (track_seen same s))))
    ∙ has_finished told c.if-refusal-ne0.false refl refl
