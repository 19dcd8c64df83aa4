-- A kind is plain where its byte is 0, and else the turn by the number after it. Assumes nothing.
use Rattle.std.proofs.Common.{ap, ◌∙◌}
use Rattle.std.specs.Float.{binary64}
use Rattle.std.specs.Float.Ieee.{of_bits}
use Rattle.pieces.proofs.Back.{plain_read, turn_read}
use Rattle.pieces.proofs.kinds.kind_at.Goals as goal

pub returns-then-s-at-eq0 : goal.returns-then-s-at-eq0
returns-then-s-at-eq0 c = plain_read c.args.s.now c.args.at c.if-s-at-eq0.true

pub returns-else-s-at-eq0 : goal.returns-else-s-at-eq0
returns-else-s-at-eq0 c = turn_read c.args.s.now c.args.at c.if-s-at-eq0.false (c.float_of.ensures ∙ ap (of_bits binary64) c.word_at.ensures)
