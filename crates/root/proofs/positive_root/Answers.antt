-- The bits give the significand and the exponent of `normal_root`.
use Rattle.std.proofs.Common.{◌∙◌, arith}
use Rattle.root.proofs.Ways.{subnormal, low_out, high_out}
use Rattle.root.proofs.positive_root.Goals as goal

pub overflow_sub-z-then-exponent-eq0 : goal.overflow_sub-z-then-exponent-eq0
overflow_sub-z-then-exponent-eq0 g c =
    let r = g.met.T.Rooted in
    let m = subnormal _ c.args.b (c.LEADING.ensures ∙ r.leading_law) (c.PLACES.ensures ∙ r.places_law) c.requires.0 c.if-exponent-eq0.true (c.PLACES-then-exponent-eq0.ensures ∙ r.places_law) in
    m.zeros

pub normal_root-requires-clause-digits : goal.normal_root-requires-clause-digits
normal_root-requires-clause-digits g c =
    let r = g.met.T.Rooted in
    let m = subnormal _ c.args.b (c.LEADING.ensures ∙ r.leading_law) (c.PLACES.ensures ∙ r.places_law) c.requires.0 c.if-exponent-eq0.true (c.PLACES-then-exponent-eq0.ensures ∙ r.places_law) in
    (m.lo, m.hi)

pub returns-then-exponent-eq0 : goal.returns-then-exponent-eq0
returns-then-exponent-eq0 g c =
    let r = g.met.T.Rooted in
    low_out _ c.args.b (c.LEADING.ensures ∙ r.leading_law) (c.PLACES.ensures ∙ r.places_law) c.requires.0 c.if-exponent-eq0.true (c.PLACES-then-exponent-eq0.ensures ∙ r.places_law)
    (omega (arith, c.LOWEST.ensures ∙ r.lowest_law)) c.normal_root.ensures

pub returns-else-exponent-eq0 : goal.returns-else-exponent-eq0
returns-else-exponent-eq0 g c =
    let r = g.met.T.Rooted in
    high_out _ c.args.b (c.LEADING.ensures ∙ r.leading_law) (c.PLACES.ensures ∙ r.places_law) (c.LOWEST-else-exponent-eq0.ensures ∙ r.lowest_law)
    (c.LEADING-else-exponent-eq0.ensures ∙ r.leading_law) c.if-exponent-eq0.false c.requires.1 c.normal_root-else-exponent-eq0.ensures
