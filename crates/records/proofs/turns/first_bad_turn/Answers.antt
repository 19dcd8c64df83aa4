-- Each of the first n is asked. Assumes nothing.
use Rattle.std.proofs.Common.{true, false, take, rules, tests, sym, ◌∙◌}
use Rattle.std.proofs.lemmas.Iterator.{YieldsList-from_slice}
use Rattle.std.proofs.lemmas.Iterator.Search.{all_from_yields_List}
use Rattle.records.proofs.HalfTurns.{every_all, is_finite, found}
use Rattle.records.proofs.turns.first_bad_turn.Goals as goal

pub returns-then-all : goal.returns-then-all
returns-then-all c =
    let l = take c.args.n c.args.kinds in
    found l true c.placeless.ensures
    (sym c.if-all.true ∙ all_from_yields_List is_finite _ _ c.all.result c.all.ensures.ran (YieldsList-from_slice l (cc)) (λ x b q k. search (rules, tests)) ∙ every_all is_finite l)

pub returns-else-all : goal.returns-else-all
returns-else-all c =
    let l = take c.args.n c.args.kinds in
    found l false c.placeless-else-all.ensures
    (sym c.if-all.false ∙ all_from_yields_List is_finite _ _ c.all.result c.all.ensures.ran (YieldsList-from_slice l (cc)) (λ x b q k. search (rules, tests)) ∙ every_all is_finite l)
