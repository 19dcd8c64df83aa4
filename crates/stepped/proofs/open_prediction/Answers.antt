-- It is the whole-list open, at its own stage. Assumes nothing.
use Rattle.std.proofs.Common.{sym, ap, ◌∙◌}
use Rattle.std.specs.Float.{binary64}
use Rattle.filter.specs.declared.Stage.TheVariants.{PredictingStepped}
use Rattle.filter.proofs.Sizes.{numbers_le}
use Rattle.stepped.specs.Ways.{opened_at}
use Rattle.stepped.proofs.Ways.{opens_prediction}
use Rattle.stepped.proofs.open_prediction.Goals as goal

pub returns : goal.returns
returns c = c.opened_at.ensures ∙ ap (opened_at PredictingStepped) c.open_prediction-a.ensures.value ∙ sym (opens_prediction binary64 c.args.f _ (λ h. numbers_le _ _ h h))
