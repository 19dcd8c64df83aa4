-- What each callee has made stands in the head, and the shared steps do the rest.
use Rattle.std.proofs.Common.{rules}
use native.Mathlib.Omega.{arith}
use denote.Param.{layout}
use Rattle.angles.specs.declared.Kind.TheVariants.{Plain}
use Rattle.angles.proofs.SeenKinds.{plain_seen, kinds_replicate}
use Rattle.correction.proofs.Sizes.{kinds_fit}
use Rattle.correction.proofs.flat.correct_nonlinear.Goals as goal

-- the call is given no kinds, so nothing but their size says that they fit
pub deviations-dz-requires : goal.deviations-dz-requires
deviations-dz-requires g c = (search rules, (search rules, (kinds_fit (layout g.row.T) (search rules), (omega arith, omega arith))))

pub deviations-dx-requires : goal.deviations-dx-requires
deviations-dx-requires g c = (search rules, (search rules, (kinds_fit (layout g.row.T) (search rules), (omega arith, omega arith))))

pub apply_correction-requires : goal.apply_correction-requires
apply_correction-requires g c = (search rules, (search rules, (kinds_fit (layout g.row.T) (search rules), (search rules, (omega arith, omega arith)))))

pub returns : goal.returns
returns g c =
    rw (c.plus-s.ensures, c.flat_spread-sz.ensures, c.flat_spread-c.ensures, c.deviations-dz.ensures, c.deviations-dx.ensures, c.flat_mean-zm.ensures, c.flat_mean-xm.ensures, kinds_replicate g.T.Number.same 8 Plain, plain_seen g.T.Number.same) at c.apply_correction.ensures
