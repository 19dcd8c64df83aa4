-- Each of the first n is asked. Assumes nothing.
use Rattle.std.proofs.Common.{take, rules, tests, ◌∙◌}
use Rattle.std.specs.Float.{binary64}
use Rattle.std.proofs.lemmas.Iterator.{YieldsList-from_slice}
use Rattle.std.proofs.lemmas.Iterator.Search.{all_from_yields_List}
use Rattle.filter.specs.Asked.{passing}
use Rattle.records.proofs.HalfTurns.{every_all}
use Rattle.records.proofs.turns.turns_pass.Goals as goal

pub returns : goal.returns
returns c =
    all_from_yields_List (passing binary64) _ _ c.all.result c.all.ensures.ran (YieldsList-from_slice (take c.args.n c.args.kinds) (cc)) (λ x b q k. search (rules, tests))
    ∙ every_all (passing binary64) (take c.args.n c.args.kinds)
