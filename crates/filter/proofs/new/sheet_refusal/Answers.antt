-- `new::sheet_refusal` meets its contract. Assumes nothing.
use Rattle.std.proofs.Common.{sym, ap}
use Prim.Native.Nat.{ℕ}
use lib.Dec.{leb}
use Rattle.floats.proofs.Numbers.{floats_long}
use Rattle.filter.proofs.Parts.{sheet_tested}
use Rattle.filter.proofs.new.sheet_refusal.Goals as goal

pub returns : goal.returns
returns g c =
    sheet_tested g.T.Number.format c.args.n c.square-k.ensures _ _ c.is_sized-sized.ensures (ap (λ (l : ℕ). leb c.square-k.result l) (sym (floats_long g.met.T.Number.floats_law c.args.q.now)))
    c.first_bad-in_noise.ensures c.next_bad-found.ensures c.requires c.params_pass-passing.ensures c.first_refusal.ensures
