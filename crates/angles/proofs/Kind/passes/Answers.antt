-- `passes` meets its contract: by the variant that the kind is. Assumes nothing.
use Rattle.std.proofs.Common.{ap, sym, ◌∙◌}
use Rattle.angles.specs.declared.Kind.{Kind}
use Rattle.angles.specs.Wrap.{half_turn}
use Rattle.angles.specs.Kinds.{passes}
use Rattle.angles.proofs.SeenKinds.{plain_seen, turn_seen}
use Rattle.angles.proofs.Kind.passes.Goals as goal

pub returns-in-Plain : goal.returns-in-Plain
returns-in-Plain g c = sym (ap (passes g.T.Number.format) (ap (g.T.Number.seen Kind) c.in-Plain.is ∙ plain_seen g.T.Number.same))

pub returns-in-Turn : goal.returns-in-Turn
returns-in-Turn g c =
    let f = g.T.Number.format in
    c.is_half_turn.ensures ∙ ap (half_turn f) (g.met.T.Number.float_law c.in-Turn.h) ∙ sym (ap (passes f) (ap (g.T.Number.seen Kind) c.in-Turn.is ∙ turn_seen g.T.Number.same c.in-Turn.h))
