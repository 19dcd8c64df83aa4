-- One number more is read; when all are, the contract holds. Assumes nothing.
use Rattle.std.proofs.Common.{refl, arith}
use Rattle.std.proofs.lemmas.List.{length-take-le}
use Rattle.pieces.proofs.Turns.{reading_more, reading_part}
use Rattle.pieces.proofs.numbers.numbers_at.Goals as goal

pub loop-i-preserved : goal.loop-i-preserved
loop-i-preserved c = reading_more c.loop-i.invariant (omega (arith, length-take-le c.args.k c.args.out.now c.requires.1)) c.number_at.ensures

pub returns : goal.returns
returns c = reading_part c.loop-i.invariant c.args.out.now refl (omega (arith, length-take-le c.args.k c.args.out.now c.requires.1)) c.requires.1
