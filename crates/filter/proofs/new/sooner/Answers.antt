-- `new::sooner` meets its contract. Assumes nothing.
use borrow.Author.Tests.{eq-eqb, ne_eqb}
use Rattle.filter.specs.New.{sooner}
use Rattle.filter.proofs.new.sooner.Goals as goal

pub returns-then-b-eq2 : goal.returns-then-b-eq2
unfolding sooner
returns-then-b-eq2 c = rw (eq-eqb _ _ c.if-b-eq2.true)

pub returns : goal.returns
unfolding sooner
returns c = rw (ne_eqb _ _ c.if-b-eq2.false) c.earlier.ensures
