-- Each turn puts one number. Assumes nothing.
use Rattle.std.proofs.Common.{List, ap, ◌∙◌, sym, subst}
use lib.Ieee.{Float, nan}
use Rattle.floats.proofs.Numbers.{floats_long, floats_at}
use Rattle.script.specs.Page.{page, put_number, put_numbers}
use Rattle.script.proofs.Pages.{Shows, front_seen, printed_none, printed_more, printed_over}
use Rattle.script.proofs.write.put_numbers.Goals as goal

pub loop-x-init : goal.loop-x-init
loop-x-init g c = printed_none

pub loop-x-preserved : goal.loop-x-preserved
loop-x-preserved g c =
    let law = g.met.T.Number.floats_law in
    let e = c.put_number-next.ensures in
    let x = ap g.T.Number.float c.x-item.is ∙ sym (floats_at law _ _ nan c.x-item.result c.loop-x-test.true) in
    printed_more c.loop-x.invariant (rw (floats_long law) c.loop-x-test.true)
    (subst (λ (y : Float). Shows c.put_number-next.result c.put_number-next.new.out (put_number g.T.Number.format y (page c.loop-x.out c.loop-x.next))) x (e.value, e.out_after))

pub returns-clause-value : goal.returns-clause-value
returns-clause-value g c =
    let a = c.args in
    let law = g.met.T.Number.floats_law in
    (printed_over c.loop-x.invariant (rw (floats_long law) c.loop-x-test.false)).0
    ∙ ap (λ (l : List Float). (put_numbers g.T.Number.format l (page a.out.now a.at)).used) (front_seen law a.k a.s.now c.min.ensures)

pub returns-clause-out_after : goal.returns-clause-out_after
returns-clause-out_after g c =
    let a = c.args in
    let law = g.met.T.Number.floats_law in
    (printed_over c.loop-x.invariant (rw (floats_long law) c.loop-x-test.false)).1
    ∙ ap (λ (l : List Float). (put_numbers g.T.Number.format l (page a.out.now a.at)).bytes) (front_seen law a.k a.s.now c.min.ensures)
