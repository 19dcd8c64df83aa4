-- `through` meets its contract: by the variant that the kind is. Assumes nothing.
use Rattle.std.proofs.Common.{ap, sym, ◌∙◌}
use Rattle.angles.specs.declared.Kind.{Kind as Kind_of}
use Rattle.angles.specs.Wrap.{wrap_step}
use Rattle.angles.specs.Kinds.{Kind, through_of}
use Rattle.angles.proofs.SeenKinds.{plain_seen, turn_seen}
use Rattle.angles.proofs.Kind.through.Goals as goal

pub returns-in-Plain : goal.returns-in-Plain
returns-in-Plain g c = sym (ap (λ (k : Kind). through_of g.T.Number.format k (g.T.Number.float c.args.d)) (ap (g.T.Number.seen Kind_of) c.in-Plain.is ∙ plain_seen g.T.Number.same))

pub returns-in-Turn : goal.returns-in-Turn
returns-in-Turn g c =
    let f = g.T.Number.format in
    let d = g.T.Number.float c.args.d in
    c.wrap_step.ensures ∙ ap (wrap_step f d) (g.met.T.Number.float_law c.in-Turn.h)
    ∙ sym (ap (λ (k : Kind). through_of f k d) (ap (g.T.Number.seen Kind_of) c.in-Turn.is ∙ turn_seen g.T.Number.same c.in-Turn.h))
