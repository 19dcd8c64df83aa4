-- The letter, and of a turn its half-turn. Assumes nothing.
use Rattle.angles.proofs.SeenKinds.{plain_seen, turn_seen}
use Rattle.script.proofs.Pages.{made}
use Rattle.lines.proofs.answers.put_kind.Goals as goal

pub returns-in-Plain : goal.returns-in-Plain
returns-in-Plain g c = rw (c.in-Plain.is, plain_seen g.T.Number.same) (c.put.ensures.value, c.put.ensures.out_after)

pub returns-in-Turn : goal.returns-in-Turn
returns-in-Turn g c =
    let e = c.put-at.ensures in
    rw (c.in-Turn.is, turn_seen g.T.Number.same c.in-Turn.h, ← g.met.T.Number.float_law c.in-Turn.h, ← made (e.value, e.out_after)) (c.put_number.ensures.value, c.put_number.ensures.out_after)
