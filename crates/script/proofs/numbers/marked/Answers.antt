-- Each place is what the call at its number gave. Assumes nothing.
use Rattle.std.proofs.Common.{◌≡◌, ◌∙◌, get_or, arith}
use borrow.Author.Rules.{rules}
use borrow.Author.Tests.{tests}
use lib.Ieee.{nan}
use Rattle.floats.proofs.Numbers.{floats_at}
use Rattle.script.specs.Numbers.{mark_of}
use Rattle.script.proofs.numbers.marked.Goals as goal

pub returns-clause-by_index : goal.returns-clause-by_index
returns-clause-by_index g c =
    λ i h.
    let z = g.T.Number.ZERO in
    let k = (c.from_fn.ensures.items.at i z h).2 in
    let m : g.T.Number.float (get_or c.from_fn.result i z) ≡ mark_of g.T.Number.format i = search (rules, tests) in
    floats_at g.met.T.Number.floats_law c.from_fn.result i nan z (omega arith) ∙ m
