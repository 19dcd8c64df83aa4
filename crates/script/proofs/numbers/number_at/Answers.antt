-- A token of a word's length, with what its word is. Assumes nothing.
use Rattle.std.proofs.Common.{◌∙◌, ap, arith, Option}
use Rattle.script.specs.declared.text.Read.{Read}
use Rattle.script.proofs.Seen.{no_number, number_found}
use Rattle.script.proofs.Widths.{other_width, whole, no_word_there, word_there}
use Rattle.script.proofs.numbers.number_at.Goals as goal

pub returns-then-digits-DIGITS : goal.returns-then-digits-DIGITS
returns-then-digits-DIGITS g c =
    let law = g.met.T.Worded.digits_law in
    no_number g.T.Number.same ∙ other_width g.T.Number.format c.args.s.now c.args.at c.token_at-t.ensures (λ e. omega (arith, law))

pub returns-in_err-bits : goal.returns-in_err-bits
returns-in_err-bits g c =
    let f = g.T.Number.format in
    let w = whole f c.token_at-t.result (c.DIGITS.ensures ∙ g.met.T.Worded.digits_law) c.less-digits.ensures c.if-digits-DIGITS.false in
    ap (g.T.Number.seen (λ A. Option (Read A))) c.from_residual.ensures ∙ no_number g.T.Number.same
    ∙ no_word_there f c.args.s.now c.args.at c.token_at-t.ensures w c.in_err-bits.ensures

pub returns : goal.returns
returns g c =
    let f = g.T.Number.format in
    let w = whole f c.token_at-t.result (c.DIGITS.ensures ∙ g.met.T.Worded.digits_law) c.less-digits.ensures c.if-digits-DIGITS.false in
    number_found g.T.Number.same g.met.T.Number.float_law c.float_of.result c.token_at-t.result.end
    ∙ word_there f c.args.s.now c.args.at c.token_at-t.ensures w c.in_ok-bits.ensures c.float_of.ensures
