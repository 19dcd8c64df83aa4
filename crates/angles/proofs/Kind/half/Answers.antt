-- `half` meets its contract: by the variant that the kind is. Assumes nothing.
use Rattle.std.proofs.Common.{ap, sym, ◌∙◌}
use Rattle.angles.specs.declared.Kind.{Kind}
use Rattle.angles.specs.Kinds.{half_of}
use Rattle.angles.proofs.SeenKinds.{plain_seen, turn_seen}
use Rattle.angles.proofs.Kind.half.Goals as goal

pub returns-in-Plain : goal.returns-in-Plain
returns-in-Plain g c = ap g.T.Number.float c.ZERO.ensures ∙ g.met.T.Number.zero_law ∙ sym (ap half_of (ap (g.T.Number.seen Kind) c.in-Plain.is ∙ plain_seen g.T.Number.same))

pub returns-in-Turn : goal.returns-in-Turn
returns-in-Turn g c = g.met.T.Number.float_law c.in-Turn.h ∙ sym (ap half_of (ap (g.T.Number.seen Kind) c.in-Turn.is ∙ turn_seen g.T.Number.same c.in-Turn.h))
