-- One kind more is written; when all are, the contract holds. Assumes nothing.
use Rattle.std.proofs.Common.{◌+◌, ◌*◌, ◌<◌, ap, ◌∙◌, arith}
use Rattle.std.proofs.Math.Seq.{sets}
use Rattle.std.proofs.lemmas.List.{get_or-take, length-take-le}
use Rattle.angles.specs.Kinds.{plain}
use Rattle.angles.specs.Kinds.{Kind}
use Rattle.pieces.specs.Bytes.{kind_bytes}
use Rattle.pieces.proofs.Turns.{writing_more, writing_end}
use Rattle.pieces.proofs.Back.{length_kind}
use Rattle.pieces.proofs.kinds.put_kinds.Goals as goal

pub loop-i-preserved : goal.loop-i-preserved
loop-i-preserved c =
    let a = c.args in
    let i = c.loop-i.i in
    let h : i < a.n = omega (arith, length-take-le a.n a.kinds (omega arith)) in
    let k = get_or-take a.n a.kinds i plain h in
    writing_more c.loop-i.invariant plain h (omega arith) (length_kind _)
    (c.put_kind.ensures ∙ ap (λ (k : Kind). sets c.loop-i.out (a.at + 9 * i) (kind_bytes k)) k)

pub returns : goal.returns
returns c = writing_end c.loop-i.invariant (omega (arith, length-take-le c.args.n c.args.kinds (omega arith)))
