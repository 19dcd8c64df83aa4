-- The run is counted as far as its bytes belong to the class. Assumes nothing.
use Rattle.std.proofs.Common.{rules, ap, ◌∙◌, ◌+◌}
use Rattle.std.proofs.lemmas.Iterator.{YieldsList-from_slice}
use Rattle.std.proofs.lemmas.Iterator.Consumers.{count_from_yields_List}
use Rattle.std.proofs.lemmas.Iterator.Search.{YieldsList-from_take_while}
use borrow.Author.Tests.{tests}
use Rattle.script.specs.Text.{belongs_to, run_of}
use Rattle.script.proofs.Runs.{run_is, rest_is}
use Rattle.script.proofs.text.run_end.Goals as goal

pub returns : goal.returns
returns c =
    let a = c.args in
    let rest = c.iter.result.rest.now in
    ap (λ n. a.at + n)
    (count_from_yields_List c.take_while-run.result c.count.result c.count.ensures.ran
    (YieldsList-from_take_while _ (belongs_to a.class) (YieldsList-from_slice rest (ap (λ i. i.rest.now) c.take_while-run.ensures.source)) c.take_while-run.ensures.closure (cc) (λ x b q k. search (rules, tests)))
    ∙ run_is a.class rest ∙ ap (λ l. run_of a.class l) (c.iter.ensures.rest ∙ rest_is a.at a.s.now c.min.ensures))
