-- `tests::slice_refusal` meets its contract: each test is the one asked for. Assumes nothing.
use mathlib.Core.Path.{refl, sym, ap, ◌∙◌}
use lib.Dec.{leb}
use lib.ListN.{length}
use Rattle.floats.proofs.Numbers.{floats_long}
use Rattle.filter.proofs.Sizes.{and_true}
use Rattle.filter.proofs.Order.{tested}
use Rattle.filter.proofs.tests.slice_refusal.Goals as goal

pub returns : goal.returns
returns g c =
    tested g.T.Number.format _ _ c.first_refusal.ensures c.first_bad-found.ensures refl (c.is_sized-sized.ensures ∙ sym (and_true _))
    (λ s. ap (leb c.args.k) (sym (floats_long g.met.T.Number.floats_law c.args.s.now)) ∙ sym (and_true _))
    refl refl refl (λ s. refl) refl (λ s. refl)
