-- `checks::early_refusal` meets its contract: the tests in their order. Assumes nothing.
use Rattle.filter.specs.Asked.{in_order}
use Rattle.filter.proofs.checks.early_refusal.Goals as goal

pub returns-then-not-fits : goal.returns-then-not-fits
unfolding in_order
returns-then-not-fits c = rw (c.placeless.ensures, c.if-not-fits.true)

pub returns-then-not-sized : goal.returns-then-not-sized
unfolding in_order
returns-then-not-sized c = rw (c.placeless-then-not-sized.ensures, c.if-not-fits.false, c.if-not-sized.true)

pub returns-then-not-long : goal.returns-then-not-long
unfolding in_order
returns-then-not-long c = rw (c.placeless-then-not-long.ensures, c.if-not-fits.false, c.if-not-sized.false, c.if-not-long.true)

pub returns-then-stale : goal.returns-then-stale
unfolding in_order
returns-then-stale c = rw (c.placeless-then-stale.ensures, c.if-not-fits.false, c.if-not-sized.false, c.if-not-long.false, c.if-stale.true)

pub returns : goal.returns
unfolding in_order
returns c = rw (c.placeless-2.ensures, c.if-not-fits.false, c.if-not-sized.false, c.if-not-long.false, c.if-stale.false)
