-- A list that ends before the word does has none; and else each turn reads one digit.
use Rattle.std.proofs.Common.{arith, sym, ap, ◌∙◌}
use Rattle.words.specs.Words.{digit_in}
use Rattle.words.proofs.Digits.{no_word, is_digit, part_at, read_none, read_more, read_bad, read_end, fit}
use Rattle.words.proofs.word_at.Goals as goal

pub returns-in_err-get : goal.returns-in_err-get
returns-in_err-get g c = c.from_residual.ensures ∙ sym (no_word g.T.Number.format c.args.s.now c.args.at (grind (arith, c.in_err-get.ensures.lookup.0)))

pub returns-in_err-digits : goal.returns-in_err-digits
returns-in_err-digits g c =
    c.from_residual-in_err-digits.ensures
    ∙ sym (no_word g.T.Number.format c.args.s.now c.args.at (grind (arith, c.DIGITS.ensures, g.met.T.Worded.digits_law, c.in_ok-get.ensures.lookup.0.3, c.in_err-digits.ensures.lookup.0)))

pub loop-c-init : goal.loop-c-init
loop-c-init g c = read_none

pub overflow_mul-v : goal.overflow_mul-v
overflow_mul-v g c = omega (arith, fit {d = 0} c.loop-c.invariant (omega (arith, g.met.T.Worded.digits_law, c.in_ok-digits.ensures.lookup.0.3)) (omega arith))

pub returns-in_err-v : goal.returns-in_err-v
returns-in_err-v g c =
    c.from_residual-in_err-v.ensures
    ∙ read_bad c.loop-c.invariant (omega (arith, g.met.T.Worded.digits_law, c.in_ok-digits.ensures.lookup.0.3))
    (c.in_err-v.ensures ∙ ap digit_in (part_at _ _ _ c.loop-c.c-index c.in_ok-get.ensures.lookup.0.2 c.in_ok-digits.ensures.lookup.0.2 c.loop-c-test.true))

pub overflow_add-v : goal.overflow_add-v
overflow_add-v g c =
    omega (arith, fit c.loop-c.invariant (omega (arith, g.met.T.Worded.digits_law, c.in_ok-digits.ensures.lookup.0.3)) (is_digit _ c.in_ok-v.ensures).0)

pub loop-c-preserved : goal.loop-c-preserved
loop-c-preserved g c =
    read_more c.loop-c.invariant (omega (arith, g.met.T.Worded.digits_law, c.in_ok-digits.ensures.lookup.0.3))
    (c.in_ok-v.ensures ∙ ap digit_in (part_at _ _ _ c.loop-c.c-index c.in_ok-get.ensures.lookup.0.2 c.in_ok-digits.ensures.lookup.0.2 c.loop-c-test.true))

pub returns : goal.returns
returns g c =
    let law = g.met.T.Worded.digits_law in
    let m = c.in_ok-digits.ensures.lookup.0.3 in
    read_end c.loop-c.invariant (omega (arith, law)) (omega (arith, law))
