-- `checks::first_refusal` meets its contract: what comes before the search, what the search has found, then the last two tests. Assumes nothing.
use mathlib.Core.Path.{◌≡◌, sym, ◌∙◌}
use Rattle.floats.specs.declared.Verdict.{Verdict}
use Rattle.floats.specs.Refusal.{earlier}
use Rattle.floats.proofs.Refusals.{number_of, earlier_first, earlier_second}
use Rattle.filter.specs.Asked.{in_order}
use Rattle.filter.proofs.checks.first_refusal.Goals as goal

-- nothing was refused before the last two tests
past : {early a : Verdict} (found b : Verdict) → early ≡ a → early.number ≡ 0 → found.number ≡ 0 → earlier a (earlier found b) ≡ b
past found b e z y = earlier_second _ _ (sym (number_of e) ∙ z) ∙ earlier_second _ _ y

pub returns-then-not-plain : goal.returns-then-not-plain
unfolding in_order
returns-then-not-plain c = rw (c.placeless.ensures, past c.args.found _ c.early_refusal-early.ensures c.if-early-ne0.false c.if-found-ne0.false, c.if-not-plain.true)

pub returns-then-not-passing : goal.returns-then-not-passing
unfolding in_order
returns-then-not-passing c =
    rw (c.placeless-then-not-passing.ensures, past c.args.found _ c.early_refusal-early.ensures c.if-early-ne0.false c.if-found-ne0.false, c.if-not-plain.false, c.if-not-passing.true)

pub returns : goal.returns
unfolding in_order
returns c = rw (c.placeless-2.ensures, past c.args.found _ c.early_refusal-early.ensures c.if-early-ne0.false c.if-found-ne0.false, c.if-not-plain.false, c.if-not-passing.false)
