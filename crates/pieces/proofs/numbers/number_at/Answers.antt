-- A number is the float of its word. Assumes nothing.
use Rattle.std.proofs.Common.{sym, ap, ◌∙◌}
use Rattle.std.specs.Float.{binary64}
use Rattle.std.specs.Float.Ieee.{of_bits}
use Rattle.pieces.proofs.Back.{number_read}
use Rattle.pieces.proofs.numbers.number_at.Goals as goal

pub returns : goal.returns
returns c = c.float_of.ensures ∙ ap (of_bits binary64) c.word_at.ensures ∙ sym (number_read _)
