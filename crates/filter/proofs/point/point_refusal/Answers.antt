-- `point::point_refusal` meets its contract. Assumes nothing.
use Rattle.std.proofs.Common.{◌≡◌, sym, ap, ◌∙◌}
use Prim.Native.Nat.{ℕ, ◌+◌}
use mathlib.Core.Bool.{◌&&◌, cond}
use lib.Dec.{leb}
use Rattle.floats.proofs.Numbers.{floats_long}
use Rattle.filter.specs.Asked.{in_range}
use Rattle.filter.proofs.Points.{tests, both_so, both_not}
use Rattle.filter.proofs.point.point_refusal.Goals as goal
use Rattle.filter.proofs.point.point_refusal.Goals.{then-is_sized, else-is_sized}

pub returns : goal.returns
returns g c =
    let n = c.args.n in
    let k = c.args.k in
    let one = c.is_sized.ensures in
    let both : c.if-is_sized.sized ≡ (in_range 1 8 n && leb k (cond (leb n 8) (n + n) 0)) =
    elim c.if-is_sized.branch [
      | then-is_sized w ↦ both_so (sym one ∙ w.if-is_sized.true) (w.sized-is ∙ ap (λ (m : ℕ). leb k m) w.last_point.ensures)
      | else-is_sized w ↦ both_not _ (sym one ∙ w.if-is_sized.false) (w.sized-is ∙ one)
    ] in
    tests g.T.Number.format _ n k both c.point_numbers-numbers.ensures (ap (λ (m : ℕ). leb c.point_numbers-numbers.result m) (sym (floats_long g.met.T.Number.floats_law c.args.list.now))) c.early_refusal.ensures
