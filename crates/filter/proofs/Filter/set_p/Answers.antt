-- `Filter::set_p` meets its contract. Assumes nothing.
use Prim.Native.Nat.{◌≤◌}
use mathlib.Core.Path.{refl, sym, ap, ◌∙◌}
use native.Mathlib.Omega.{arith}
use Rattle.floats.specs.declared.Slice.TheVariants.{Covariance}
use Rattle.floats.proofs.Numbers.{floats_long}
use Rattle.filter.specs.declared.Answer.{Answer}
use Rattle.filter.specs.Filters.{p_set, sets}
use Rattle.filter.proofs.Seen.{states_seen}
use Rattle.filter.proofs.Lines.{matrix_in, matrix_is}
use Rattle.filter.proofs.Taken.{has_set, sent_back}
use Rattle.filter.proofs.Setting.{matrix_passed, p_told, p_left}
use Rattle.filter.proofs.Filter.set_p.Goals as goal

pub returns-then-refusal-ne0 : goal.returns-then-refusal-ne0
returns-then-refusal-ne0 g c =
    let n = g.T.Number in
    sent_back n.same (p_told n.same n.format c.args.self (n.floats c.args.src.now) c.square-k.ensures c.slice_refusal-refusal.ensures c.is_shut-shut.ensures) c.answer.ensures c.if-refusal-ne0.true

pub filled-p-requires : goal.filled-p-requires
filled-p-requires g c =
    let n = g.T.Number in
    let v = n.floats c.args.src.now in
    let p = matrix_passed n.format Covariance v c.args.self.sheet.n c.square-k.ensures c.slice_refusal-refusal.ensures c.if-refusal-ne0.false in
    omega (arith, matrix_in n.format Covariance v c.args.self.sheet.n c.square-k.ensures p, floats_long g.met.T.Number.floats_law c.args.src.now)

pub returns : goal.returns
returns g c =
    let n = g.T.Number in
    let v = n.floats c.args.src.now in
    let t = p_told n.same n.format c.args.self v c.square-k.ensures c.slice_refusal-refusal.ensures c.is_shut-shut.ensures in
    let p = matrix_passed n.format Covariance v c.args.self.sheet.n c.square-k.ensures c.slice_refusal-refusal.ensures c.if-refusal-ne0.false in
    ap (n.seen Answer) c.answer-2.ensures ∙ p_left n.same c.args.self c.filled-p.result _
    ∙ has_set t c.if-refusal-ne0.false (λ v. sets (p_set v))
    (rw (states_seen n.same c.args.self) (sym (g.met.T.Number.floats_seen_law _) ∙ matrix_is n.format Covariance v c.args.self.sheet.n c.square-k.ensures p c.filled-p.ensures)) refl
