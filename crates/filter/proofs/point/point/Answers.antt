-- `point::point` meets its contract. Assumes nothing.
use Rattle.std.proofs.Common.{sym, ap, ◌∙◌}
use native.Mathlib.Omega.{arith}
use Rattle.floats.proofs.Numbers.{floats_long, floats_take}
use Rattle.floats.proofs.Refusals.{number_of}
use Rattle.filter.proofs.Points.{within, part, none, start_none, start_part, given, begun, floats_part}
use Rattle.filter.proofs.point.point.Goals as goal

pub returns-then-refusal-ne0-clause-result_value : goal.returns-then-refusal-ne0-clause-result_value
returns-then-refusal-ne0-clause-result_value g c =
    ap g.T.Number.floats (c.part.ensures.value ∙ given c.args.list.now 0 0 (omega arith) (omega arith)) ∙ floats_take g.met.T.Number.floats_law c.args.list.now 0
    ∙ sym (none g.T.Number.format _ c.args.n c.args.k (λ z. c.if-refusal-ne0.true (number_of c.point_refusal-refusal.ensures ∙ z)))

pub returns-then-refusal-ne0-clause-ref_ptr_value : goal.returns-then-refusal-ne0-clause-ref_ptr_value
returns-then-refusal-ne0-clause-ref_ptr_value g c =
    c.part.ensures.start ∙ begun c.args.list.now 0 0 (omega arith) (omega arith) _ _
    ∙ start_none g.T.Number.format _ c.args.n c.args.k _ (λ z. c.if-refusal-ne0.true (number_of c.point_refusal-refusal.ensures ∙ z))

pub overflow_mul-a : goal.overflow_mul-a
overflow_mul-a g c =
    omega (arith, floats_long g.met.T.Number.floats_law c.args.list.now, within g.T.Number.format _ c.args.n c.args.k (sym (number_of c.point_refusal-refusal.ensures) ∙ c.if-refusal-ne0.false), c.well_formed.0.0)

pub overflow_add-a : goal.overflow_add-a
overflow_add-a g c =
    omega (arith, floats_long g.met.T.Number.floats_law c.args.list.now, within g.T.Number.format _ c.args.n c.args.k (sym (number_of c.point_refusal-refusal.ensures) ∙ c.if-refusal-ne0.false), c.well_formed.0.0)

pub returns-clause-result_value : goal.returns-clause-result_value
returns-clause-result_value g c =
    let n = g.met.T.Number in
    let fits = within g.T.Number.format _ c.args.n c.args.k (sym (number_of c.point_refusal-refusal.ensures) ∙ c.if-refusal-ne0.false) in
    ap g.T.Number.floats (c.part-2.ensures.value ∙ given c.args.list.now _ _ (omega arith) (omega (arith, floats_long n.floats_law c.args.list.now, fits))) ∙ floats_part n.floats_seen_law g.T.Number.same _ _ c.args.list.now
    ∙ part g.T.Number.format _ c.args.n c.args.k (sym (number_of c.point_refusal-refusal.ensures) ∙ c.if-refusal-ne0.false)

pub returns-clause-ref_ptr_value : goal.returns-clause-ref_ptr_value
returns-clause-ref_ptr_value g c =
    let fits = within g.T.Number.format _ c.args.n c.args.k (sym (number_of c.point_refusal-refusal.ensures) ∙ c.if-refusal-ne0.false) in
    c.part-2.ensures.start ∙ begun c.args.list.now _ _ (omega arith) (omega (arith, floats_long g.met.T.Number.floats_law c.args.list.now, fits)) _ _
    ∙ start_part g.T.Number.format _ c.args.n c.args.k _ (sym (number_of c.point_refusal-refusal.ensures) ∙ c.if-refusal-ne0.false)
