-- What is lent is tested and taken in, the steps work from it, and what they make is installed.
use native.Mathlib.Omega.{arith}
use borrow.Author.Rules.{rules}
use mathlib.Core.List.{List}
use denote.Param.{layout}
use Rattle.angles.specs.declared.Kind.{Kind}
use Rattle.filter.proofs.Taken.{sent_back}
use Rattle.filter.proofs.Closing.{weighted_told, weighted_sized, weighted_closed}
use Rattle.filter.proofs.Room.{numbers_fit, state_kinds_fit, measurement_kinds_fit, moments_room, intake_room}
use Rattle.filter.proofs.Filter.close_correction.Goals as goal

pub halves-turns-requires : goal.halves-turns-requires
halves-turns-requires g c =
    let τ = layout g.row.T in
    (measurement_kinds_fit τ (search rules), omega (arith, numbers_fit τ (search rules)))

pub kinds_pass-passing-requires : goal.kinds_pass-passing-requires
kinds_pass-passing-requires g c = measurement_kinds_fit (layout g.row.T) (search rules)

pub take_in-lent-requires : goal.take_in-lent-requires
take_in-lent-requires g c =
    let τ = layout g.row.T in
    (omega (arith, numbers_fit τ (search rules)), intake_room τ (search rules))

pub returns-then-lent-ne0 : goal.returns-then-lent-ne0
returns-then-lent-ne0 g c =
    let n = g.T.Number in
    let a = c.args in
    sent_back n.same
    (weighted_told g.met.T.Number.floats_seen_law n.same n.format a.self a.m (n.floats a.z.now) (n.floats a.r.now) (n.floats a.observed.now) c.is_correcting-correcting.ensures (n.seen (λ A. List (Kind A)) a.kinds) c.halves-turns.ensures c.kinds_pass-passing.ensures c.take_in-lent.ensures)
    c.answer.ensures c.if-lent-ne0.true

pub center_weight-w0m-requires : goal.center_weight-w0m-requires
center_weight-w0m-requires g c =
    let n = g.T.Number in
    let a = c.args in
    let sized = weighted_sized g.met.T.Number.floats_seen_law n.same n.format a.self a.m (n.floats a.z.now) (n.floats a.r.now) (n.floats a.observed.now) c.is_correcting-correcting.ensures (n.seen (λ A. List (Kind A)) a.kinds) c.halves-turns.ensures c.kinds_pass-passing.ensures c.take_in-lent.ensures c.if-lent-ne0.false in
    (search rules, sized.0)

pub correct_with_weights_residuals-made-requires : goal.correct_with_weights_residuals-made-requires
correct_with_weights_residuals-made-requires g c =
    let n = g.T.Number in
    let a = c.args in
    let τ = layout g.row.T in
    let h = numbers_fit τ (search rules) in
    let sized = weighted_sized g.met.T.Number.floats_seen_law n.same n.format a.self a.m (n.floats a.z.now) (n.floats a.r.now) (n.floats a.observed.now) c.is_correcting-correcting.ensures (n.seen (λ A. List (Kind A)) a.kinds) c.halves-turns.ensures c.kinds_pass-passing.ensures c.take_in-lent.ensures c.if-lent-ne0.false in
    (omega (arith, h), (omega (arith, h), (omega (arith, h), (omega (arith, h), (state_kinds_fit τ (search rules), (measurement_kinds_fit τ (search rules), (moments_room τ (search rules), sized)))))))

pub close-requires : goal.close-requires
close-requires g c =
    let τ = layout g.row.T in
    (search rules, (moments_room τ (search rules), (omega (arith, numbers_fit τ (search rules)), search rules)))

pub returns : goal.returns
returns g c =
    let n = g.T.Number in
    let a = c.args in
    weighted_closed g.met.T.Number.floats_seen_law n.same n.format a.self a.m (n.floats a.z.now) (n.floats a.r.now) (n.floats a.observed.now) c.is_correcting-correcting.ensures (n.seen (λ A. List (Kind A)) a.kinds) c.halves-turns.ensures c.kinds_pass-passing.ensures c.take_in-lent.ensures c.if-lent-ne0.false
    c.center_weight-w0m.ensures c.correct_with_weights_residuals-made.ensures c.close.ensures
