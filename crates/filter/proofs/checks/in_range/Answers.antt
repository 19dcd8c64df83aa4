-- `checks::in_range` meets its contract: the two tests of `in_range`. Assumes nothing.
use borrow.Author.Tests.{le-leb, lt-leb}
use Rattle.filter.specs.Asked.{in_range}
use Rattle.filter.proofs.checks.in_range.Goals as goal

pub returns-then-from-n : goal.returns-then-from-n
unfolding in_range
returns-then-from-n c = rw (le-leb _ _ c.if-from-n.true)

pub returns-else-from-n : goal.returns-else-from-n
unfolding in_range
returns-else-from-n c = rw (lt-leb _ _ c.if-from-n.false)
