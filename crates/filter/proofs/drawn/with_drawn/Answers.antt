-- `drawn::with_drawn` meets its contract. Assumes nothing.
use mathlib.Core.Path.{◌≡◌, refl, ap, ◌∙◌}
use mathlib.Core.List.{List}
use lib.Ieee.{Float}
use Rattle.filter.specs.declared.Kept.{Kept}
use Rattle.filter.specs.declared.Track.{Track}
use Rattle.filter.specs.Filters.{track}
use Rattle.filter.proofs.drawn.with_drawn.Goals as goal

pub returns : goal.returns
returns g c =
    rw (g.met.T.Number.floats_seen_law c.args.weights, g.met.T.Number.floats_seen_law c.args.points, ← c.nothing_kept.ensures)
    (g.T.Number.same
    (λ A s. (t : Track A) (w p : List A) (k : Kept A) → s Track (record { x = t.x; p = t.p; weights = t.weights; points = t.points; stale = t.stale; stage = c.args.stage; drawn_weights = w; drawn_points = p; kept = k }) ≡ (let u = s Track t in track u.x u.p u.weights u.points u.stale c.args.stage (s List w) (s List p) (s Kept k)))
    (λ t w p k. refl) c.args.t c.args.weights c.args.points c.nothing_kept.result)
