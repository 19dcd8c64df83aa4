-- Each place is what the call at its number gave. Assumes nothing.
use borrow.Author.Rules.{rules}
use borrow.Author.Tests.{tests}
use Rattle.script.proofs.hex.marked_bytes.Goals as goal

pub returns-clause-by_index : goal.returns-clause-by_index
returns-clause-by_index c = λ i h. let k = (c.from_fn.ensures.items.at i 0 h).2 in search (rules, tests)
