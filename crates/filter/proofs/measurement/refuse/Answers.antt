-- Each array is +0 throughout.
use Rattle.std.proofs.Common.{◌∙◌}
use Rattle.matrix.proofs.Generic.{blank}
use Rattle.filter.proofs.Measuring.{seen_intake}
use Rattle.filter.proofs.measurement.refuse.Goals as goal

pub returns : goal.returns
returns g c =
    let n = g.met.T.Number in
    let z = blank n.floats_law 8 c.ZERO.ensures n.zero_law in
    let r = blank n.floats_law 64 c.ZERO-2.ensures n.zero_law in
    let o = blank n.floats_law 136 c.ZERO-3.ensures n.zero_law in
    seen_intake n.floats_seen_law g.T.Number.same _ _ _ _ ∙ rw (z, r, o)
