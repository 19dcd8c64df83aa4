-- A close by what its steps have made: its refusal handed back, or the filter that it leaves.
use Rattle.matrix.proofs.Generic.{seen_accepted, seen_refused, blank}
use Rattle.sigma.specs.declared.Moments.{Moments}
use Rattle.filter.proofs.Seen.{seen_answer}
use Rattle.filter.proofs.Closing.{seen_closed}
use Rattle.filter.proofs.Filter.close.Goals as goal

pub returns-in-Err : goal.returns-in-Err
returns-in-Err g c =
    let same = g.T.Number.same in
    rw (c.in-Err.is, seen_refused same Moments c.in-Err.refused, c.answer.ensures, c.verdict.ensures) (seen_answer same _ _)

pub returns : goal.returns
returns g c =
    let same = g.T.Number.same in
    rw (c.in-Ok.is, seen_accepted same Moments c.in-Ok.moments, c.answer-2.ensures, c.placeless.ensures)
    (seen_closed g.met.T.Number.floats_seen_law same _ _ _ _ _ _ _ (blank g.met.T.Number.floats_law 17 c.ZERO.ensures g.met.T.Number.zero_law) (blank g.met.T.Number.floats_law 136 c.ZERO-2.ensures g.met.T.Number.zero_law) c.nothing_kept.ensures)
