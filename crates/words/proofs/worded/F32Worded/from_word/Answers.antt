-- The test is that of a NaN's bits, and what is read from those is the NaN. Else the 32 bits that are made say what the wider number does.
use Rattle.std.proofs.Common.{refl, ◌∙◌, arith}
use lib.Ieee.{binary32, of_bits}
use Rattle.words.proofs.Bits.{nan_read, no_nan_read, nan_made, folded, folded_no_nan}
use Rattle.words.proofs.worded.F32Worded.from_word.Goals as goal

pub returns-then-b-gt-INFINITY_BITS : goal.returns-then-b-gt-INFINITY_BITS
unfolding of_bits
returns-then-b-gt-INFINITY_BITS c = nan_made binary32 refl ∙ nan_read binary32 c.args.b refl refl c.if-b-gt-INFINITY_BITS.true

pub float_from_bits-result : goal.float_from_bits-result
float_from_bits-result c = folded_no_nan c.args.b (omega (arith, c.min-sign.ensures)) (no_nan_read binary32 c.args.b refl refl c.if-b-gt-INFINITY_BITS.false)

pub returns : goal.returns
returns c = folded c.args.b (omega (arith, c.min-sign.ensures))
