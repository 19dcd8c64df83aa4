-- `Filter::set_x` meets its contract. Assumes nothing.
use Prim.Native.Nat.{◌≤◌}
use mathlib.Core.Path.{refl, sym, ap, ◌∙◌}
use native.Mathlib.Omega.{arith}
use Rattle.floats.proofs.Numbers.{floats_long}
use Rattle.filter.specs.declared.Answer.{Answer}
use Rattle.filter.specs.Filters.{x_set, sets}
use Rattle.filter.proofs.Seen.{states_seen}
use Rattle.filter.proofs.Lines.{sized_le, long_le}
use Rattle.filter.proofs.Taken.{all_passed, has_set, sent_back}
use Rattle.filter.proofs.Setting.{x_told, x_left}
use Rattle.filter.proofs.Filter.set_x.Goals as goal

pub returns-then-refusal-ne0 : goal.returns-then-refusal-ne0
returns-then-refusal-ne0 g c =
    let n = g.T.Number in
    sent_back n.same (x_told n.same n.format c.args.self (n.floats c.args.src.now) c.slice_refusal-refusal.ensures c.is_shut-shut.ensures) c.answer.ensures c.if-refusal-ne0.true

pub filled-x-requires : goal.filled-x-requires
filled-x-requires g c =
    let n = g.T.Number in
    let p = all_passed (x_told n.same n.format c.args.self (n.floats c.args.src.now) c.slice_refusal-refusal.ensures c.is_shut-shut.ensures) c.if-refusal-ne0.false in
    omega (arith, sized_le n.format p, long_le n.format p, states_seen n.same c.args.self, floats_long g.met.T.Number.floats_law c.args.src.now)

pub returns : goal.returns
returns g c =
    let n = g.T.Number in
    let t = x_told n.same n.format c.args.self (n.floats c.args.src.now) c.slice_refusal-refusal.ensures c.is_shut-shut.ensures in
    ap (n.seen Answer) c.answer-2.ensures ∙ x_left n.same c.args.self c.filled-x.result _
    ∙ has_set t c.if-refusal-ne0.false (λ v. sets (x_set v)) (rw (states_seen n.same c.args.self) (sym (g.met.T.Number.floats_seen_law _) ∙ c.filled-x.ensures)) refl
