-- The bits are those of the first mark and i more. Assumes nothing.
use Rattle.std.proofs.Common.{◌∙◌, ◌+◌, ◌≡◌, ◌<◌, ◌^◌, ap, ℕ, arith}
use lib.Ieee.{Format, binary32, binary64, of_bits}
use Rattle.script.specs.Numbers.{mark_bits, mark_of}
use Rattle.script.proofs.numbers.mark.Goals as goal

fits : (f : Format) {b : ℕ} (i : ℕ) → b ≡ mark_bits f → i < 512 → b + i < 2 ^ 64
fits binary32 i e h = omega arith
fits binary64 i e h = omega arith

pub overflow_add-MARK_BITS : goal.overflow_add-MARK_BITS
overflow_add-MARK_BITS g c = omega (arith, fits g.T.Number.format c.args.i (c.MARK_BITS.ensures ∙ g.met.T.Marks.mark_bits_law) c.requires)

pub returns : goal.returns
unfolding mark_of
returns g c = c.float_of.ensures ∙ ap (λ (b : ℕ). of_bits g.T.Number.format (b + c.args.i)) (c.MARK_BITS.ensures ∙ g.met.T.Marks.mark_bits_law)
