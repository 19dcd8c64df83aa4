-- What each callee has made stands in the head, and the shared steps do the rest.
use Rattle.correction.proofs.correct_with_weights_residuals.Goals as goal

pub returns : goal.returns
returns g c =
    rw (c.plus-s.ensures, c.spread-sz.ensures, c.spread-c.ensures, c.deviations-dz.ensures, c.deviations-dx.ensures, c.anchored_mean-zm.ensures, c.anchored_mean-xm.ensures, c.widened-wide.ensures) at c.apply_correction.ensures
