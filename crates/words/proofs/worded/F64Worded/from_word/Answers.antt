-- The test is that of a NaN's bits, and what is read from those is the NaN.
use Rattle.std.proofs.Common.{refl, ◌∙◌}
use lib.Ieee.{binary64, of_bits}
use Rattle.words.proofs.Bits.{nan_read, no_nan_read, nan_made}
use Rattle.words.proofs.worded.F64Worded.from_word.Goals as goal

pub returns-then-b-gt-INFINITY_BITS : goal.returns-then-b-gt-INFINITY_BITS
unfolding of_bits
returns-then-b-gt-INFINITY_BITS c = nan_made binary64 refl ∙ nan_read binary64 c.args.b refl refl c.if-b-gt-INFINITY_BITS.true

pub float_from_bits-result : goal.float_from_bits-result
float_from_bits-result c = no_nan_read binary64 c.args.b refl refl c.if-b-gt-INFINITY_BITS.false
