-- The bits of an f32 stand for it.
use Rattle.std.proofs.Common.{sym, ap, ◌∙◌, subst, arith}
use lib.Dec.{T}
use lib.Ieee.{binary32, of_bits}
use lib.Ieee.Bits.{of_bits-to_bits}
use Rattle.root.proofs.rooted.F32Rooted.bits.Goals as goal

pub returns-clause-back : goal.returns-clause-back
returns-clause-back c = ap (of_bits binary32) (omega (arith, c.from.ensures, c.f32_to_bits_with_nan.ensures)) ∙ of_bits-to_bits binary32 c.args.self (subst T (sym c.well_formed.0.1) tt)
