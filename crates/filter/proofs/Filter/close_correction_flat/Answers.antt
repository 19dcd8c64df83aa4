-- What is lent is tested and taken in, the steps work from it, and what they make is installed.
use native.Mathlib.Omega.{arith}
use borrow.Author.Rules.{rules}
use denote.Param.{layout}
use Rattle.filter.proofs.Taken.{sent_back}
use Rattle.filter.proofs.Closing.{flat_told, flat_sized, flat_closed}
use Rattle.filter.proofs.Room.{numbers_fit, moments_room, intake_room}
use Rattle.filter.proofs.Filter.close_correction_flat.Goals as goal

pub take_in-lent-requires : goal.take_in-lent-requires
take_in-lent-requires g c =
    let τ = layout g.row.T in
    (omega (arith, numbers_fit τ (search rules)), intake_room τ (search rules))

pub returns-then-lent-ne0 : goal.returns-then-lent-ne0
returns-then-lent-ne0 g c =
    let n = g.T.Number in
    let a = c.args in
    sent_back n.same (flat_told g.met.T.Number.floats_seen_law n.same n.format a.self a.m (n.floats a.z.now) (n.floats a.r.now) (n.floats a.observed.now) c.is_correcting-correcting.ensures c.all_plain-plain.ensures c.take_in-lent.ensures) c.answer.ensures c.if-lent-ne0.true

pub correct_nonlinear-made-requires : goal.correct_nonlinear-made-requires
correct_nonlinear-made-requires g c =
    let n = g.T.Number in
    let a = c.args in
    let τ = layout g.row.T in
    let h = numbers_fit τ (search rules) in
    let sized = flat_sized g.met.T.Number.floats_seen_law n.same n.format a.self a.m (n.floats a.z.now) (n.floats a.r.now) (n.floats a.observed.now) c.is_correcting-correcting.ensures c.all_plain-plain.ensures c.take_in-lent.ensures c.if-lent-ne0.false in
    (omega (arith, h), (omega (arith, h), (omega (arith, h), (moments_room τ (search rules), sized))))

pub close-requires : goal.close-requires
close-requires g c =
    let τ = layout g.row.T in
    (search rules, (moments_room τ (search rules), (omega (arith, numbers_fit τ (search rules)), search rules)))

pub returns : goal.returns
returns g c =
    let n = g.T.Number in
    let a = c.args in
    flat_closed g.met.T.Number.floats_seen_law n.same n.format a.self a.m (n.floats a.z.now) (n.floats a.r.now) (n.floats a.observed.now) c.is_correcting-correcting.ensures c.all_plain-plain.ensures c.take_in-lent.ensures c.if-lent-ne0.false
    c.correct_nonlinear-made.ensures c.close.ensures
