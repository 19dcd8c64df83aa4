-- `Filter::read_stale` meets its contract. Assumes nothing.
use borrow.Author.Tests.{ne_eqb}
use Rattle.filter.proofs.Replies.{stale_refused, stale_given}
use Rattle.filter.proofs.Filter.read_stale.Goals as goal

pub returns-then-refusal-ne0 : goal.returns-then-refusal-ne0
returns-then-refusal-ne0 g c = let n = g.T.Number in rw (ne_eqb _ _ c.if-refusal-ne0.true) (stale_refused n.same n.format c.args.self c.is_sized-sized.ensures c.early_refusal-refusal.ensures c.if-refusal-ne0.true)

pub returns-else-refusal-ne0 : goal.returns-else-refusal-ne0
returns-else-refusal-ne0 g c = let n = g.T.Number in stale_given n.same n.format c.args.self c.is_sized-sized.ensures c.early_refusal-refusal.ensures c.if-refusal-ne0.false
