-- It is the whole-list open, at its own stage. Assumes nothing.
use Rattle.std.proofs.Common.{sym, ap, ◌∙◌}
use Rattle.std.specs.Float.{binary64}
use Rattle.filter.specs.declared.Stage.TheVariants.{CorrectingStepped}
use Rattle.filter.proofs.Sizes.{numbers_le}
use Rattle.stepped.specs.Ways.{opened_at}
use Rattle.stepped.proofs.Ways.{opens_correction}
use Rattle.stepped.proofs.open_correction.Goals as goal

pub returns : goal.returns
returns c = c.opened_at.ensures ∙ ap (opened_at CorrectingStepped) c.open_correction-a.ensures.value ∙ sym (opens_correction binary64 c.args.f _ (λ h. numbers_le _ _ h h))
