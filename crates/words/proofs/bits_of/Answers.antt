-- What a format holds has few enough bits.
use Rattle.words.proofs.Bits.{short}
use Rattle.words.proofs.bits_of.Goals as goal

pub returns-clause-short : goal.returns-clause-short
returns-clause-short g c = rw c.to_word.ensures (short g.T.Number.format _ c.held.ensures)
