-- `fronts::copy_front` meets its contract. Assumes nothing.
use mathlib.Core.Path.{ap}
use mathlib.Core.List.{List, ◌++◌}
use lib.ListN.{drop}
use Rattle.floats.specs.Fronts.{front}
use Rattle.filter.proofs.fronts.copy_front.Goals as goal

pub returns : goal.returns
unfolding front
returns g c = ap (λ (l : List g.row.T.Denot). l ++ drop c.args.k c.args.d.now) c.copy_from_slice.ensures.after
