-- The digits before this one are read.
use Rattle.words.proofs.Digits.{Read}
use Rattle.words.proofs.word_at.Given as goal

abbrev pub invariant-loop-c : goal.invariant-loop-c
invariant-loop-c g l = Read g.T.Number.format l.fn.s l.fn.at l.c-index l.v
