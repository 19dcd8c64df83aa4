-- `new::fresh_sheet` meets its contract. Assumes nothing.
use Rattle.std.proofs.Common.{◌≡◌, refl, ap, ◌∙◌}
use mathlib.Core.List.{List}
use lib.ListN.{replicate}
use Rattle.angles.specs.declared.Kind.{Kind}
use Rattle.angles.specs.declared.Kind.TheVariants.{Plain}
use Rattle.filter.specs.Filters.{sheet}
use Rattle.filter.proofs.Seen.{seen_sheet}
use Rattle.filter.proofs.new.fresh_sheet.Goals as goal

pub returns : goal.returns
returns g c =
    seen_sheet g.met.T.Number.floats_seen_law g.T.Number.same _ _ _ _
    ∙ ap (sheet c.args.n _ _) (g.T.Number.same (λ A s. s (λ B. List (Kind B)) (replicate {A = Kind A} 8 Plain) ≡ replicate 8 Plain) refl)
