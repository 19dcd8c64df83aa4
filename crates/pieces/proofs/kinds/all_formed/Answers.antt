-- The answer is over the places, each of which shows its piece. Assumes nothing.
use Rattle.std.proofs.Common.{ℕ, ◌+◌, ◌*◌, drop, refl, rules, tests, arith, ◌∙◌}
use Rattle.std.proofs.lemmas.Iterator.{YieldsList-from_range}
use Rattle.std.proofs.lemmas.Iterator.Search.{all_from_yields_List}
use Rattle.pieces.specs.Bytes.{formed}
use Rattle.pieces.proofs.Turns.{places_all}
use Rattle.pieces.proofs.kinds.all_formed.Goals as goal

pub returns : goal.returns
returns c =
    let a = c.args in
    all_from_yields_List (λ (i : ℕ). formed (drop (a.at + 9 * i) a.s.now)) _ _ c.all.result c.all.ensures.ran (YieldsList-from_range 0 a.n a.n refl (omega arith)) (λ x b q k. search (rules, tests))
    ∙ places_all 9 formed a.s.now a.at a.n
