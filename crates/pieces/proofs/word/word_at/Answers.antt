-- The eight bytes that are copied are the first from place `at` on. Assumes nothing.
use Rattle.std.proofs.Common.{◌∙◌}
use Rattle.pieces.proofs.Words.{word_read}
use Rattle.pieces.proofs.word.word_at.Goals as goal

pub returns : goal.returns
returns c = c.from_le_bytes.ensures ∙ word_read c.args.s.now c.args.at _ c.copy_from_slice.ensures.after
