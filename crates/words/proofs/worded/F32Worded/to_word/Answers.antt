-- What differs from itself is the NaN.
use lib.Ieee.{binary32, ne}
use Rattle.words.proofs.Bits.{no_nan, nan_written}
use Rattle.words.proofs.worded.F32Worded.to_word.Goals as goal

pub returns-then-self : goal.returns-then-self
unfolding ne
returns-then-self c = nan_written binary32 _ c.if-self.true

pub float_to_bits-self : goal.float_to_bits-self
unfolding ne
float_to_bits-self c = no_nan _ c.if-self.false
