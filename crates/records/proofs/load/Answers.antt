-- The form, then what stands there. Assumes nothing.
use Rattle.std.proofs.Common.{sym, ap, ◌∙◌}
use Rattle.std.specs.Float.{binary64}
use Rattle.floats.proofs.Refusals.{number_of}
use Rattle.filter.specs.New.{refused_answer}
use Rattle.filter.proofs.Sizes.{range_le, square_le}
use Rattle.records.proofs.Loaded.{has_form, no_form, its_contents}
use Rattle.records.proofs.load.Goals as goal

pub returns-then-refusal-ne0 : goal.returns-then-refusal-ne0
returns-then-refusal-ne0 c =
    let is = c.form_refusal-refusal.ensures in
    c.refused.ensures ∙ ap refused_answer is ∙ no_form binary64 c.args.s.now (λ z. c.if-refusal-ne0.true (number_of is ∙ z))

pub contents-requires : goal.contents-requires
contents-requires c =
    let z = has_form c.args.s.now (sym (number_of c.form_refusal-refusal.ensures) ∙ c.if-refusal-ne0.false) in
    let h = range_le 1 8 _ z.sized in
    (z.three, (h, (square_le _ h, z.whole)))

pub returns : goal.returns
returns c = c.contents.ensures ∙ its_contents binary64 c.args.s.now (sym (number_of c.form_refusal-refusal.ensures) ∙ c.if-refusal-ne0.false)
