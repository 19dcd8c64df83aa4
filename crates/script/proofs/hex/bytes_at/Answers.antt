-- The sign for none, or each turn reads one byte and puts it in its place. Assumes nothing.
use Rattle.std.proofs.Common.{[], ◌∷◌, ap, ◌∙◌, arith}
use Rattle.script.specs.Hex.{pairs_in}
use Rattle.script.proofs.Letters.{tested}
use Rattle.script.proofs.Digits.{dash, no_pair, got_none, got_more, got_not, got_end}
use Rattle.script.proofs.hex.bytes_at.Goals as goal

pub returns-then-same_bytes-clause-value : goal.returns-then-same_bytes-clause-value
returns-then-same_bytes-clause-value c =
    let a = c.args in
    let t = c.token_at-t in
    (dash a.s.now a.at a.out.now t.ensures (tested a.s.now t.result (45 ∷ []) c.part.ensures c.same_bytes.ensures c.if-same_bytes.true)).0

pub returns-in_err-len-clause-value : goal.returns-in_err-len-clause-value
returns-in_err-len-clause-value c =
    let a = c.args in
    let t = c.token_at-t in
    c.from_residual.ensures
    ∙ (no_pair a.s.now a.at a.out.now t.ensures (tested a.s.now t.result (45 ∷ []) c.part.ensures c.same_bytes.ensures c.if-same_bytes.false) (c.in_err-len.ensures ∙ ap pairs_in c.less.ensures)).0

pub loop-i-init : goal.loop-i-init
loop-i-init c =
    let a = c.args in
    let t = c.token_at-t in
    got_none a.s.now a.at a.out.now t.ensures (tested a.s.now t.result (45 ∷ []) c.part.ensures c.same_bytes.ensures c.if-same_bytes.false) (c.in_ok-len.ensures ∙ ap pairs_in c.less.ensures)

pub returns-in_err-out-clause-value : goal.returns-in_err-out-clause-value
returns-in_err-out-clause-value c = c.from_residual-in_err-out.ensures ∙ (got_not c.loop-i.invariant (omega arith) c.in_err-out.ensures).0

pub returns-in_err-out-clause-out_after : goal.returns-in_err-out-clause-out_after
returns-in_err-out-clause-out_after c = (got_not c.loop-i.invariant (omega arith) c.in_err-out.ensures).1

pub loop-i-preserved : goal.loop-i-preserved
loop-i-preserved c = got_more c.loop-i.invariant (omega arith) c.in_ok-out.ensures

pub returns-clause-value : goal.returns-clause-value
returns-clause-value c = (got_end c.loop-i.invariant (omega arith)).0

pub returns-clause-out_after : goal.returns-clause-out_after
returns-clause-out_after c = (got_end c.loop-i.invariant (omega arith)).1
