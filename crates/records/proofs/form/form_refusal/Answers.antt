-- Each return by the tests before it. Assumes nothing.
use Rattle.std.proofs.Common.{false, true, sym, ◌∙◌, arith}
use Rattle.records.proofs.Loaded.{under_three, bad_states, cut_short, by_form, long_enough, first_off, second_off, kinds_decide}
use Rattle.records.proofs.form.form_refusal.Goals as goal
use Rattle.records.proofs.form.form_refusal.Goals.{then-s-ne87-via-then-s-ne87, then-s-ne87-via-else-s-ne87+then-s-ne80, then-s-ne87-via-else-s-ne87+else-s-ne80+then-not-all_formed}

pub returns-then-s-lt3 : goal.returns-then-s-lt3
returns-then-s-lt3 c = c.placeless.ensures ∙ under_three c.args.s.now (omega arith)

pub returns-then-not-is_sized : goal.returns-then-not-is_sized
returns-then-not-is_sized c = c.placeless-then-not-is_sized.ensures ∙ bad_states c.args.s.now c.if-s-lt3.false (sym c.if-not-is_sized.ensures)

pub returns-then-s-record_length : goal.returns-then-s-record_length
returns-then-s-record_length c =
    let b = c.args.s.now in
    let k = sym c.if-not-is_sized.ensures in
    c.placeless-then-s-record_length.ensures ∙ cut_short b c.if-s-lt3.false k (omega (arith, long_enough b k c.record_length.ensures, c.if-s-record_length.true))

pub all_formed-requires : goal.all_formed-requires
all_formed-requires c =
    let b = c.args.s.now in
    omega (arith, long_enough b (sym c.if-not-is_sized.ensures) c.record_length.ensures, c.if-s-record_length.false)

pub returns-then-s-ne87 : goal.returns-then-s-ne87
returns-then-s-ne87 c =
    let b = c.args.s.now in
    let k = sym c.if-not-is_sized.ensures in
    c.placeless-then-s-ne87.ensures ∙ by_form b c.if-s-lt3.false k false (omega (arith, long_enough b k c.record_length.ensures, c.if-s-record_length.false))
    (elim c.then-s-ne87.branch [
      | then-s-ne87-via-then-s-ne87 w ↦ first_off b w.if-s-ne87.true
      | then-s-ne87-via-else-s-ne87+then-s-ne80 w ↦ second_off b w.if-s-ne87.false w.if-s-ne80.true
      | then-s-ne87-via-else-s-ne87+else-s-ne80+then-not-all_formed w ↦ kinds_decide b w.if-s-ne87.false w.if-s-ne80.false (sym w.if-not-all_formed.ensures)
    ])

pub returns : goal.returns
returns c =
    let b = c.args.s.now in
    let k = sym c.if-not-is_sized.ensures in
    c.placeless-2.ensures ∙ by_form b c.if-s-lt3.false k true (omega (arith, long_enough b k c.record_length.ensures, c.if-s-record_length.false))
    (kinds_decide b c.if-s-ne87.false c.if-s-ne80.false (sym c.if-not-all_formed.ensures))
