-- Its byte and its word are the bytes of the kind. Assumes nothing.
use Rattle.std.proofs.Common.{◌∙◌}
use Rattle.pieces.proofs.Back.{plain_written, turn_written}
use Rattle.pieces.proofs.kinds.put_kind.Goals as goal

pub returns-in-Plain : goal.returns-in-Plain
returns-in-Plain c = c.put_word.ensures ∙ plain_written c.args.out.now c.args.at c.in-Plain.is

pub returns-in-Turn : goal.returns-in-Turn
returns-in-Turn c = c.put_word-in-Turn.ensures ∙ turn_written c.args.out.now c.args.at c.in-Turn.is c.bits_of.ensures.value
