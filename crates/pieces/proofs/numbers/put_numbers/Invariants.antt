-- The first i numbers are written. Assumes nothing.
use Rattle.pieces.specs.Bytes.{number_bytes}
use Rattle.pieces.proofs.Turns.{Writing}
use Rattle.pieces.proofs.numbers.put_numbers.Given as goal

abbrev pub invariant-loop-i : goal.invariant-loop-i
invariant-loop-i l = Writing 8 number_bytes l.l l.k l.initial.out l.at l.i l.out
