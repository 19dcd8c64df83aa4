-- The first i kinds are read. Assumes nothing.
use Rattle.pieces.specs.Bytes.{kind_at}
use Rattle.pieces.proofs.Turns.{Reading}
use Rattle.pieces.proofs.kinds.kinds_at.Given as goal

abbrev pub invariant-loop-i : goal.invariant-loop-i
invariant-loop-i l = Reading 9 kind_at l.s l.at l.n l.initial.k-items l.i l.k-items
