-- `new::track_refusal` meets its contract. Assumes nothing.
use Rattle.std.proofs.Common.{◌≡◌, sym, ap₂, ◌∙◌}
use Prim.Native.Nat.{ℕ}
use mathlib.Core.Bool.{◌&&◌}
use lib.Dec.{leb}
use lib.ListN.{length}
use Rattle.floats.proofs.Numbers.{floats_long}
use Rattle.filter.proofs.Parts.{track_tested, first_long, first_short}
use Rattle.filter.proofs.new.track_refusal.Goals as goal
use Rattle.filter.proofs.new.track_refusal.Goals.{then-n-x, else-n-x}

pub returns : goal.returns
returns g c =
    let law = g.met.T.Number.floats_law in
    let k = c.square-k.result in
    let long : c.if-n-x.long ≡ (leb c.args.n (length c.args.x.now) && leb k (length c.args.p.now)) =
    elim c.if-n-x.branch [ then-n-x w ↦ first_long w.if-n-x.true w.long-is | else-n-x w ↦ first_short _ w.if-n-x.false w.long-is ] in
    track_tested g.T.Number.format c.args.n c.square-k.ensures _ _ c.is_sized-sized.ensures (long ∙ ap₂ (λ (i j : ℕ). leb c.args.n i && leb k j) (sym (floats_long law c.args.x.now)) (sym (floats_long law c.args.p.now)))
    c.first_bad-in_state.ensures c.next_bad-found.ensures c.first_refusal.ensures
