-- What is above the sign's bit counts as the sign, in the 32 bits that are made as in the wider number.
use Rattle.std.proofs.Common.{◌≡◌, ℕ, ◌+◌, ◌%◌, ◌≤◌, ap, ◌∙◌, arith}
use lib.Dec.{leb}
use lib.Ieee.{binary32, of_bits}
use Rattle.std.proofs.lemmas.Bool.Decides.{nat_tests}
use Rattle.root.proofs.rooted.F32Rooted.of_bits.Goals as goal
use Rattle.root.proofs.rooted.F32Rooted.of_bits.Goals.{then-b-lt-SIGN, else-b-lt-SIGN}

module _ (b : ℕ) (h : 0x8000_0000 ≤ b) where
  rest : (0x8000_0000 + b % 0x8000_0000) % 0x8000_0000 ≡ b % 0x8000_0000
  rest = omega arith

  digits : (0x8000_0000 + b % 0x8000_0000) % 0x80_0000 ≡ b % 0x80_0000
  digits = omega arith

  sign : leb 0x8000_0000 (0x8000_0000 + b % 0x8000_0000) ≡ leb 0x8000_0000 b
  sign = grind (arith, nat_tests)

  folded : of_bits binary32 (0x8000_0000 + b % 0x8000_0000) ≡ of_bits binary32 b
  unfolding of_bits
  folded = rw (sign, rest, digits)

pub returns : goal.returns
returns c =
    let e = c.f32_from_bits_with_nan.ensures in
    elim c.if-b-lt-SIGN.branch [
      | then-b-lt-SIGN w ↦ e ∙ ap (of_bits binary32) w.word-is
      | else-b-lt-SIGN w ↦ e ∙ ap (of_bits binary32) (omega (arith, w.word-is)) ∙ folded c.args.b w.if-b-lt-SIGN.false
    ]
