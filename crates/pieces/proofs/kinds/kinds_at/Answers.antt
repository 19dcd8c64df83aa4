-- One kind more is read; when all are, the contract holds. Assumes nothing.
use Rattle.std.proofs.Common.{refl, replicate, arith}
use Rattle.std.proofs.lemmas.List.{length-take-le}
use Rattle.angles.specs.Kinds.{plain}
use Rattle.pieces.proofs.Turns.{reading_more, reading_part}
use Rattle.pieces.proofs.kinds.kinds_at.Goals as goal

pub loop-i-preserved : goal.loop-i-preserved
loop-i-preserved c = reading_more c.loop-i.invariant (omega (arith, length-take-le c.args.n (replicate 8 plain) c.requires.0)) c.kind_at.ensures

pub returns : goal.returns
returns c = reading_part c.loop-i.invariant (replicate 8 plain) refl (omega (arith, length-take-le c.args.n (replicate 8 plain) c.requires.0)) c.requires.0
