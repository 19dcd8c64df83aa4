-- One number more is written; when all are, the contract holds. Assumes nothing.
use Rattle.std.proofs.Common.{ℕ, ◌+◌, ◌*◌, ◌<◌, sym, ap, ◌∙◌, arith}
use Rattle.std.specs.Float.{binary64}
use Rattle.std.specs.Float.Ieee.{nan, to_bits}
use Rattle.std.proofs.Math.Seq.{sets}
use Rattle.std.proofs.lemmas.List.{get_or-take, length-take-le}
use Rattle.pieces.specs.Bytes.{little_endian}
use Rattle.pieces.proofs.Turns.{writing_more, writing_end}
use Rattle.pieces.proofs.Back.{number_written, length_number}
use Rattle.pieces.proofs.numbers.put_numbers.Goals as goal

pub loop-i-preserved : goal.loop-i-preserved
loop-i-preserved c =
    let a = c.args in
    let i = c.loop-i.i in
    let h : i < a.k = omega (arith, length-take-le a.k a.l.now c.requires.0) in
    let v = get_or-take a.k a.l.now i nan h in
    writing_more c.loop-i.invariant nan h (omega arith) (length_number _)
    (c.put_word.ensures ∙ ap (λ (b : ℕ). sets c.loop-i.out (a.at + 8 * i) (little_endian 8 b)) (c.bits_of.ensures.value ∙ ap (to_bits binary64) v)
    ∙ ap (sets c.loop-i.out (a.at + 8 * i)) (sym (number_written _)))

pub returns : goal.returns
returns c = writing_end c.loop-i.invariant (omega (arith, length-take-le c.args.k c.args.l.now c.requires.0))
