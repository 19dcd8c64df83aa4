-- `new::fresh_track` meets its contract. Assumes nothing.
use Rattle.std.proofs.Common.{◌≡◌, ◌∙◌}
use mathlib.Core.Bool.{true}
use mathlib.Core.List.{List}
use lib.Ieee.{Float}
use Rattle.floats.specs.Numbers.{zeros}
use Rattle.matrix.proofs.Generic.{blank}
use Rattle.filter.specs.declared.Stage.TheVariants.{Shut}
use Rattle.filter.specs.Types.{Kept}
use Rattle.filter.specs.Filters.{track, nothing_kept}
use Rattle.filter.specs.New.{fresh_track}
use Rattle.filter.proofs.Seen.{seen_track}
use Rattle.filter.proofs.new.fresh_track.Goals as goal

by_parts : (x p : List Float) {w v dw dv : List Float} {k : Kept} → w ≡ zeros 17 → v ≡ zeros 136 → dw ≡ zeros 17 → dv ≡ zeros 136 → k ≡ nothing_kept → track x p w v true Shut dw dv k ≡ fresh_track x p
by_parts x p a b d e h = rw (a, b, d, e, h)

pub returns : goal.returns
returns g c =
    let n = g.met.T.Number in
    seen_track n.floats_seen_law g.T.Number.same _ _ _ _ _ _ _ _ _
    ∙ by_parts _ _ (blank n.floats_law 17 c.ZERO.ensures n.zero_law) (blank n.floats_law 136 c.ZERO-2.ensures n.zero_law) (blank n.floats_law 17 c.ZERO-3.ensures n.zero_law) (blank n.floats_law 136 c.ZERO-4.ensures n.zero_law) c.nothing_kept.ensures
