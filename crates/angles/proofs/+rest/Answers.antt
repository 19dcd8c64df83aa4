-- `rest` meets its contract: each way out is the remainder by the law of that way. Assumes nothing.
use Rattle.std.proofs.Common.{◌≡◌, true, ℕ, ◌+◌, ◌-◌, ◌<◌, ap, sym, subst, ◌∙◌}
use lib.Ieee.{Float, add, rem}
use lib.Ieee.Scale.{finite}
use Rattle.floats.specs.Units.{units_of}
use Rattle.angles.proofs.Doubling.{Above, rest_itself, rest_beyond, rest_stays, rest_off, rest_nearer, twice_above}
use Rattle.angles.proofs.+rest.Goals as goal

pub returns-then-lt : goal.returns-then-lt
returns-then-lt g t c =
    let n = g.met.T.Number in
    rest_itself _ _ _ (record { holds = c.held.ensures; number = c.requires.size.0; above = c.requires.size.1 }) (record { holds = c.held-2.ensures; number = c.requires.divisor.0; above = c.requires.divisor.1 })
    (sym (n.lt_law _ _) ∙ sym c.lt.ensures ∙ c.if-lt.true)

pub returns-then-not-is_finite : goal.returns-then-not-is_finite
returns-then-not-is_finite g t c =
    let n = g.met.T.Number in
    n.sub_law _ _ _ c.sub.ensures
    ∙ rest_beyond _ _ _ (record { holds = c.held.ensures; number = c.requires.size.0; above = c.requires.size.1 }) (record { holds = c.held-2.ensures; number = c.requires.divisor.0; above = c.requires.divisor.1 })
    (sym (n.lt_law _ _) ∙ sym c.lt.ensures ∙ c.if-lt.false) (sym (ap finite (n.add_law _ _ _ c.add-twice.ensures)) ∙ sym c.is_finite.ensures ∙ c.if-not-is_finite.true)

pub rest-left-requires : goal.rest-left-requires
rest-left-requires g t c κs within =
    let n = g.met.T.Number in
    let f = g.T.Number.format in
    let r = g.T.Number.float c.args.r in
    let s = g.T.Number.float c.args.t in
    let a : Above f r = record { holds = c.held.ensures; number = c.requires.size.0; above = c.requires.size.1 } in
    let b : Above f s = record { holds = c.held-2.ensures; number = c.requires.divisor.0; above = c.requires.divisor.1 } in
    let two = n.add_law _ _ _ c.add-twice.ensures in
    let yes = sym c.is_finite.ensures ∙ c.if-not-is_finite.false in
    let some : finite (add f s s) ≡ true = sym (ap finite two) ∙ yes in (
      subst (λ (m : ℕ). units_of f r + 1 - units_of f (g.T.Number.float c.add-twice.result) < m) c.decreases
          (subst (λ (z : Float). units_of f r + 1 - units_of f z < units_of f r + 1 - units_of f s) (sym two) (rest_nearer f r s a b (sym (n.lt_law _ _) ∙ sym c.lt.ensures ∙ c.if-lt.false) some)),
      (within, (c.requires.size, (yes, rw two (twice_above f r s a b some)))),
    )

pub returns-then-lt-2 : goal.returns-then-lt-2
returns-then-lt-2 g t c =
    let n = g.met.T.Number in
    let two = n.add_law _ _ _ c.add-twice.ensures in
    rest_stays _ _ _ (record { holds = c.held.ensures; number = c.requires.size.0; above = c.requires.size.1 }) (record { holds = c.held-2.ensures; number = c.requires.divisor.0; above = c.requires.divisor.1 })
    (sym (ap finite two) ∙ sym c.is_finite.ensures ∙ c.if-not-is_finite.false) _ (c.rest-left.ensures ∙ ap (rem g.T.Number.format (g.T.Number.float c.args.r)) two) (sym (n.lt_law _ _) ∙ sym c.lt-2.ensures ∙ c.if-lt-2.true)

pub returns : goal.returns
returns g t c =
    let n = g.met.T.Number in
    let two = n.add_law _ _ _ c.add-twice.ensures in
    n.sub_law _ _ _ c.sub-2.ensures
    ∙ rest_off _ _ _ (record { holds = c.held.ensures; number = c.requires.size.0; above = c.requires.size.1 }) (record { holds = c.held-2.ensures; number = c.requires.divisor.0; above = c.requires.divisor.1 })
    (sym (ap finite two) ∙ sym c.is_finite.ensures ∙ c.if-not-is_finite.false) _ (c.rest-left.ensures ∙ ap (rem g.T.Number.format (g.T.Number.float c.args.r)) two) (sym (n.lt_law _ _) ∙ sym c.lt-2.ensures ∙ c.if-lt-2.false)
