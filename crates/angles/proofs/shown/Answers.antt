-- `shown` meets its contract: by the variant that the answer is. Assumes nothing.
use Rattle.std.proofs.Common.{◌≡◌, Result, ap, sym, ◌∙◌}
use Rattle.floats.specs.declared.Refusal.{Refusal}
use Rattle.floats.specs.Numbers.{plus_zero}
use Rattle.angles.specs.Wrap.{shown}
use Rattle.angles.proofs.SeenKinds.{accepted_seen, refused_seen}
use Rattle.angles.proofs.shown.Goals as goal

pub returns-in-Ok : goal.returns-in-Ok
returns-in-Ok g c = g.met.T.Number.float_law c.in-Ok.value ∙ sym (ap shown (ap (g.T.Number.seen (λ A. Result A Refusal)) c.in-Ok.is ∙ accepted_seen g.T.Number.same c.in-Ok.value))

pub returns-in-Err : goal.returns-in-Err
returns-in-Err g c =
    let seen : shown (g.T.Number.seen (λ A. Result A Refusal) c.args.w) ≡ plus_zero = ap shown (ap (g.T.Number.seen (λ A. Result A Refusal)) c.in-Err.is ∙ refused_seen g.T.Number.same c.in-Err.field-0) in
    let zero = g.met.T.Number.zero_law in
    cc
