-- Within m to m is m itself. Assumes nothing.
use borrow.Author.Tests.{ne_eqb}
use Rattle.stepped.proofs.Seen.{itself}
use Rattle.stepped.proofs.tests.is_named.Goals as goal

pub returns-else-named-eq0 : goal.returns-else-named-eq0
returns-else-named-eq0 c = rw (ne_eqb _ _ c.if-named-eq0.false) (itself c.args.named c.args.m)
