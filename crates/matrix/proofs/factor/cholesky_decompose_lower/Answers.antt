-- Each test passes or stops the work, and what passes takes it one step on.
use Rattle.std.proofs.Common.{refl, sym, ap, ◌∙◌}
use mathlib.Core.List.{List}
use native.Mathlib.Omega.{arith}
use Rattle.floats.specs.Refusal.{refused, accepted}
use Rattle.floats.proofs.Numbers.{floats_set}
use Rattle.matrix.proofs.Generic.{blank, read, seen_accepted, seen_refused, was_accepted, was_refused}
use Rattle.matrix.proofs.Roots.{above_value, above_never}
use Rattle.matrix.proofs.FactorSteps.{columns_begin, columns_end, column_goes, column_stops, rows_end, row_goes, row_stops}
use Rattle.matrix.proofs.factor.cholesky_decompose_lower.Goals as goal

pub loop-j-init : goal.loop-j-init
loop-j-init g c = columns_begin (blank g.met.T.Number.floats_law 64 c.ZERO-l.ensures g.met.T.Number.zero_law)

pub returns-then-not-is_above_zero : goal.returns-then-not-is_above_zero
returns-then-not-is_above_zero g c =
    seen_refused g.T.Number.same List c.refused_by.result
    ∙ ap refused c.refused_by.ensures
    ∙ sym (column_stops c.loop-j.invariant (omega arith) c.row-s.ensures.0 (read g.met.T.Number.floats_law _ _ _ (omega arith)) c.less-pivot.ensures (sym c.is_above_zero.ensures ∙ c.if-not-is_above_zero.true))

-- a pivot that has passed has a root
pub returns-in_err-d : goal.returns-in_err-d
returns-in_err-d g c = absurd (above_never g.T.Number.format _ (was_refused g.T.Number.same (λ A. A) c.square_root.ensures c.in_err-d.was) (sym c.is_above_zero.ensures ∙ c.if-not-is_above_zero.false) refl)

pub loop-i-init : goal.loop-i-init
loop-i-init g c =
    let n = g.met.T.Number in
    let above = sym c.is_above_zero.ensures ∙ c.if-not-is_above_zero.false in
    column_goes c.loop-j.invariant (omega arith) c.row-s.ensures.0 (read n.floats_law _ _ _ (omega arith)) c.less-pivot.ensures above
    (n.float_law _ ∙ above_value g.T.Number.format _ (was_accepted g.T.Number.same (λ A. A) c.square_root.ensures c.in_ok-d.was) above refl)
    (floats_set n.floats_law _ _ _)

pub returns-then-not-is_finite : goal.returns-then-not-is_finite
returns-then-not-is_finite g c =
    let n = g.met.T.Number in
    seen_refused g.T.Number.same List _
    ∙ sym (row_stops c.loop-i.invariant (omega arith) c.row-r.ensures.0 c.row-s.ensures.0 (read n.floats_law _ _ _ (omega arith)) c.less.ensures (n.div_law _ _ _ c.div-e.ensures) (sym c.is_finite.ensures ∙ c.if-not-is_finite.true))

pub loop-i-preserved : goal.loop-i-preserved
loop-i-preserved g c =
    let n = g.met.T.Number in
    row_goes c.loop-i.invariant (omega arith) c.row-r.ensures.0 c.row-s.ensures.0 (read n.floats_law _ _ _ (omega arith)) c.less.ensures (n.div_law _ _ _ c.div-e.ensures) (sym c.is_finite.ensures ∙ c.if-not-is_finite.false) (floats_set n.floats_law _ _ _)

pub loop-j-preserved : goal.loop-j-preserved
loop-j-preserved g c = rows_end c.loop-i.invariant (omega arith)

pub returns : goal.returns
returns g c = seen_accepted g.T.Number.same List c.loop-j.l ∙ ap accepted (sym (g.met.T.Number.floats_seen_law c.loop-j.l)) ∙ sym (columns_end c.loop-j.invariant (omega arith))
