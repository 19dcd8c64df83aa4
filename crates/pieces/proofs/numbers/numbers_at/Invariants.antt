-- The first i numbers are read. Assumes nothing.
use Rattle.pieces.specs.Bytes.{number_at}
use Rattle.pieces.proofs.Turns.{Reading}
use Rattle.pieces.proofs.numbers.numbers_at.Given as goal

abbrev pub invariant-loop-i : goal.invariant-loop-i
invariant-loop-i l = Reading 8 number_at l.s l.at l.k l.initial.v-items l.i l.v-items
