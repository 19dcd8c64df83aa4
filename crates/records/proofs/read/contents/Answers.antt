-- Part after part, tested and laid out. Assumes nothing.
use Rattle.std.proofs.Common.{Bool, ℕ, List, sym, ap, ap₂, ◌∙◌}
use Rattle.std.specs.Float.{binary64}
use Rattle.floats.specs.declared.Verdict.{Verdict}
use Rattle.floats.specs.Refusal.{Outcome}
use Rattle.floats.proofs.Refusals.{number_of}
use Rattle.filter.specs.Types.{Filter}
use Rattle.filter.specs.New.{refused_answer}
use Rattle.filter.specs.Load.{filter_in, load_asks}
use Rattle.records.specs.Parts.{judged, contents_of}
use Rattle.records.proofs.Loaded.{parts_of, parts_judged, parts_filter, judged_on, judged_off}
use Rattle.records.proofs.read.contents.Goals as goal

abbrev tests : List ℕ → Outcome Bool
tests b = judged binary64 (load_asks b).inputs (load_asks b).params

pub returns-then-refusal-ne0 : goal.returns-then-refusal-ne0
unfolding contents_of
returns-then-refusal-ne0 c =
    let b = c.args.s.now in
    let parts = parts_of b c.vector_at-x.ensures c.matrix_at-p.ensures c.matrix_at-q.ensures c.number_at.ensures c.number_at-2.ensures c.number_at-3.ensures c.kinds_at-kinds.ensures in
    let judged_is = c.contents_refusal-refusal.ensures ∙ parts_judged b parts binary64 in
    c.refused.ensures ∙ ap refused_answer judged_is ∙ judged_off (tests b) (filter_in b) (λ z. c.if-refusal-ne0.true (number_of judged_is ∙ z))

pub returns : goal.returns
unfolding contents_of
returns c =
    let b = c.args.s.now in
    let parts = parts_of b c.vector_at-x.ensures c.matrix_at-p.ensures c.matrix_at-q.ensures c.number_at.ensures c.number_at-2.ensures c.number_at-3.ensures c.kinds_at-kinds.ensures in
    let judged_is = c.contents_refusal-refusal.ensures ∙ parts_judged b parts binary64 in
    rw c.fresh_track-track.ensures
    (ap₂ (λ (s : Filter) (r : Verdict). record { filter = s; refusal = r }) (parts_filter b parts) judged_is ∙ judged_on (tests b) (filter_in b) (sym (number_of judged_is) ∙ c.if-refusal-ne0.false))
