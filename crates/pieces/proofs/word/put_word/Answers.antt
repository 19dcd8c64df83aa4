-- The bytes of v stand where they are copied to. Assumes nothing.
use Rattle.std.proofs.Common.{◌∙◌}
use Rattle.pieces.proofs.Words.{word_put}
use Rattle.pieces.proofs.word.put_word.Goals as goal

pub returns : goal.returns
returns c = word_put c.args.out.now c.args.at c.args.v _ c.requires (c.copy_from_slice.ensures.after ∙ c.to_le_bytes.ensures)
