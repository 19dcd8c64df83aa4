-- The first i kinds are written. Assumes nothing.
use Rattle.pieces.specs.Bytes.{kind_bytes}
use Rattle.pieces.proofs.Turns.{Writing}
use Rattle.pieces.proofs.kinds.put_kinds.Given as goal

abbrev pub invariant-loop-i : goal.invariant-loop-i
invariant-loop-i l = Writing 9 kind_bytes l.fn.kinds l.n l.initial.out l.at l.i l.out
