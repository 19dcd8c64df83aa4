-- `readings::read` meets its contract. Assumes nothing.
use Rattle.std.proofs.Common.{◌≡◌, sym, ap, ◌∙◌}
use Prim.Native.Nat.{ℕ}
use native.Mathlib.Omega.{arith}
use lib.Dec.{leb}
use Rattle.floats.proofs.Numbers.{floats_long}
use Rattle.filter.specs.Asked.{first_refusal}
use Rattle.filter.proofs.Seen.{floats_front}
use Rattle.filter.proofs.Replies.{asked, tests, room, written, left}
use Rattle.filter.proofs.readings.read.Goals as goal
use Rattle.filter.proofs.readings.read.Goals.{After-early_refusal-refusal}

told : (g : _) (c : After-early_refusal-refusal g) → let n = g.T.Number in c.early_refusal-refusal.result ≡ first_refusal n.format (asked n.format c.args.n c.args.k c.args.stale (n.floats c.args.s.now) (n.floats c.args.out.now))
told g c =
    let n = g.T.Number in
    tests n.format c.args.n c.args.k c.args.stale (n.floats c.args.s.now) _ c.is_sized-sized.ensures (ap (λ (m : ℕ). leb c.args.k m) (sym (floats_long g.met.T.Number.floats_law c.args.out.now))) c.early_refusal-refusal.ensures

pub copy_front-requires : goal.copy_front-requires
copy_front-requires g c =
    let n = g.T.Number in
    let t = told g (goal.at.copy_front-requires g c).After-early_refusal-refusal in
    let i = room n.format c.args.n c.args.k c.args.stale (n.floats c.args.s.now) _ t c.if-refusal-eq0.true in (
      c.requires i.0,
      omega (arith, floats_long g.met.T.Number.floats_law c.args.out.now, i.1),
    )

pub returns-then-refusal-eq0-clause-value : goal.returns-then-refusal-eq0-clause-value
returns-then-refusal-eq0-clause-value g c = told g (goal.at.returns-then-refusal-eq0-clause-value g c).After-early_refusal-refusal

pub returns-then-refusal-eq0-clause-out_after : goal.returns-then-refusal-eq0-clause-out_after
returns-then-refusal-eq0-clause-out_after g c =
    let n = g.T.Number in
    let t = told g (goal.at.returns-then-refusal-eq0-clause-out_after g c).After-early_refusal-refusal in
    let i = room n.format c.args.n c.args.k c.args.stale (n.floats c.args.s.now) _ t c.if-refusal-eq0.true in
    ap n.floats c.copy_front.ensures ∙ floats_front g.met.T.Number.floats_seen_law n.same c.args.k c.args.s.now _
    ∙ written n.format c.args.n c.args.k c.args.stale _ _ t c.if-refusal-eq0.true (omega (arith, floats_long g.met.T.Number.floats_law c.args.s.now, c.requires i.0))

pub returns-else-refusal-eq0-clause-value : goal.returns-else-refusal-eq0-clause-value
returns-else-refusal-eq0-clause-value g c = told g (goal.at.returns-else-refusal-eq0-clause-value g c).After-early_refusal-refusal

pub returns-else-refusal-eq0-clause-out_after : goal.returns-else-refusal-eq0-clause-out_after
returns-else-refusal-eq0-clause-out_after g c =
    left g.T.Number.format c.args.n c.args.k c.args.stale (g.T.Number.floats c.args.s.now) _ (told g (goal.at.returns-else-refusal-eq0-clause-out_after g c).After-early_refusal-refusal) c.if-refusal-eq0.false
