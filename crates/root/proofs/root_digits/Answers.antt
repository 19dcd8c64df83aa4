-- The recurrence of `Digits`, of which nothing is too large for 64 bits.
use Rattle.std.proofs.Common.{arith}
use Rattle.root.proofs.Digits.{pow_pred, begin_digits, set_digit, clear_digit, end_up, end_down, twice, under, bounded, digit_is}
use Rattle.root.proofs.root_digits.Goals as goal
use Rattle.root.proofs.root_digits.Goals.{then-t-y, else-t-y}

pub loop-i-init : goal.loop-i-init
loop-i-init g c = begin_digits g.row.DIGITS _ c.requires.digits.0 (twice _ _ c.requires.one_more)

pub overflow_add-t : goal.overflow_add-t
overflow_add-t g c = rw (digit_is c.requires.digits.1 c.loop-i.auto.i) (omega (arith, bounded c.requires.digits.1, pow_pred _ c.loop-i-test.true))

pub overflow_mul-y : goal.overflow_mul-y
overflow_mul-y g c =
    let b = bounded c.requires.digits.1 in
    elim c.if-t-y.branch [ then-t-y w ↦ omega arith | else-t-y w ↦ omega arith ]

pub loop-i-preserved : goal.loop-i-preserved
loop-i-preserved g c =
    let s = c.loop-i.invariant in
    let more = c.loop-i-test.true in
    let e = digit_is c.requires.digits.1 c.loop-i.auto.i in
    elim c.if-t-y.branch [
      | then-t-y w ↦ rw (w.q-is, w.y-is, e) (set_digit s more (rw e at w.if-t-y.true))
      | else-t-y w ↦ rw (w.q-is, w.y-is) (clear_digit s more (rw e at w.if-t-y.false))
    ]

pub returns-then-y-q : goal.returns-then-y-q
returns-then-y-q g c = end_up c.loop-i.invariant c.loop-i-test.false (under _ _ c.requires.digits.0 c.requires.one_more) c.if-y-q.true

pub returns-else-y-q : goal.returns-else-y-q
returns-else-y-q g c = end_down c.loop-i.invariant c.loop-i-test.false (under _ _ c.requires.digits.0 c.requires.one_more) c.if-y-q.false
