-- `Filter::set_params` meets its contract. Assumes nothing.
use Prim.Native.Nat.{◌≤◌}
use mathlib.Core.Path.{refl, sym, ap, ◌∙◌}
use mathlib.Core.List.{List}
use lib.ListN.{take}
use lib.Ieee.{Float}
use Rattle.floats.specs.declared.Slice.TheVariants.{Lone}
use Rattle.floats.specs.Refusal.{refusal}
use Rattle.floats.specs.Search.{input, searched}
use Rattle.sigma.specs.declared.Params.{Params}
use Rattle.filter.specs.declared.Answer.{Answer}
use Rattle.filter.proofs.Taken.{has_finished, sent_back}
use Rattle.filter.proofs.Setting.{params_told, params_left}
use Rattle.filter.proofs.Filter.set_params.Goals as goal

pub returns-then-refusal-ne0 : goal.returns-then-refusal-ne0
returns-then-refusal-ne0 g c =
    let n = g.T.Number in
    sent_back n.same
    (params_told n.same n.format c.args.self (n.seen Params c.args.params) c.first_refusal-refusal.ensures (c.first_bad-found.ensures ∙ ap (λ (v : List Float). refusal (searched (input Lone (take 3 v)))) c.values-values.ensures)
    c.is_shut-shut.ensures c.is_sized-sized.ensures c.params_pass-passing.ensures)
    c.answer.ensures c.if-refusal-ne0.true

pub returns : goal.returns
returns g c =
    let n = g.T.Number in
    let t = params_told n.same n.format c.args.self (n.seen Params c.args.params) c.first_refusal-refusal.ensures (c.first_bad-found.ensures ∙ ap (λ (v : List Float). refusal (searched (input Lone (take 3 v)))) c.values-values.ensures) c.is_shut-shut.ensures c.is_sized-sized.ensures c.params_pass-passing.ensures in
    ap (n.seen Answer) c.answer-2.ensures ∙ params_left n.same c.args.self c.args.params _ ∙ has_finished t c.if-refusal-ne0.false refl refl
