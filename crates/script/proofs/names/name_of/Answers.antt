-- The row that is found, or none, is that of the table in the definition. Assumes nothing.
use mathlib.Core.List.{List, map}
use mathlib.Core.Path.{ap}
use Rattle.std.specs.Str.{bytes_eq}
use Rattle.std.proofs.lemmas.Iterator.{YieldsList-from_slice}
use Rattle.std.proofs.lemmas.Iterator.Search.{find_from_yields_List}
use borrow.Author.Rules.{rules}
use borrow.Author.Tests.{tests}
use Rattle.script.proofs.Named.{Row, entry, told}
use Rattle.script.proofs.names.name_of.Goals as goal

pub returns-in-Some : goal.returns-in-Some
returns-in-Some c =
    told c.args.token.now c.iter.result.rest.now
    (find_from_yields_List (λ (r : Row). bytes_eq c.args.token.now r.0.now) _ _ c.find.result c.find.ensures.ran (YieldsList-from_slice c.iter.result.rest.now (cc)) (λ x b q k. search (rules, tests)))
    (ap (λ (l : List Row). map entry l) c.iter.ensures.rest)
    c.in-Some.is

pub returns-in-None : goal.returns-in-None
returns-in-None c =
    told c.args.token.now c.iter.result.rest.now
    (find_from_yields_List (λ (r : Row). bytes_eq c.args.token.now r.0.now) _ _ c.find.result c.find.ensures.ran (YieldsList-from_slice c.iter.result.rest.now (cc)) (λ x b q k. search (rules, tests)))
    (ap (λ (l : List Row). map entry l) c.iter.ensures.rest)
    c.in-None.is
