-- What differs from itself is the NaN.
use lib.Ieee.{binary64, ne}
use Rattle.words.proofs.Bits.{no_nan, nan_written}
use Rattle.words.proofs.worded.F64Worded.to_word.Goals as goal

pub returns-then-self : goal.returns-then-self
unfolding ne
returns-then-self c = nan_written binary64 _ c.if-self.true

pub float_to_bits-result : goal.float_to_bits-result
unfolding ne
float_to_bits-result c = no_nan _ c.if-self.false
