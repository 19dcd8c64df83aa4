-- `kind_refusal` meets its contract: by the two tests. Assumes nothing.
use Rattle.std.proofs.Common.{◌≡◌, true, false, refl, ap, sym, ◌∙◌}
use lib.Ieee.{Format}
use lib.Ieee.Scale.{finite}
use Rattle.floats.specs.declared.Refusal.TheVariants.{Param as PARAM}
use Rattle.floats.specs.Refusal.{bad_lone, accepted, refused}
use Rattle.angles.specs.Kinds.{Kind, half_of, passes, kind_of}
use Rattle.angles.specs.declared.Kind.{Kind as Kind_of}
use Rattle.angles.proofs.SeenKinds.{kind_accepted, kind_refused}
use Rattle.angles.proofs.kind_refusal.Goals as goal

module _ (f : Format) (k : Kind) where
  of_no_number : finite (half_of k) ≡ false → refused bad_lone ≡ kind_of f k
  of_no_number e = rw e refl

  of_no_turn : finite (half_of k) ≡ true → passes f k ≡ false → refused PARAM ≡ kind_of f k
  of_no_turn e p = rw (e, p) refl

  of_kind : finite (half_of k) ≡ true → passes f k ≡ true → accepted k ≡ kind_of f k
  of_kind e p = rw (e, p) refl

pub returns-then-not-is_finite : goal.returns-then-not-is_finite
returns-then-not-is_finite g c =
    kind_refused g.T.Number.same bad_lone ∙ of_no_number g.T.Number.format (g.T.Number.seen Kind_of c.args.k) (sym (c.is_finite.ensures ∙ ap finite c.half.ensures) ∙ c.if-not-is_finite.true)

pub returns-then-not-passes : goal.returns-then-not-passes
returns-then-not-passes g c =
    kind_refused g.T.Number.same PARAM
    ∙ of_no_turn g.T.Number.format (g.T.Number.seen Kind_of c.args.k) (sym (c.is_finite.ensures ∙ ap finite c.half.ensures) ∙ c.if-not-is_finite.false) (sym c.passes.ensures ∙ c.if-not-passes.true)

pub returns : goal.returns
returns g c =
    kind_accepted g.T.Number.same c.args.k
    ∙ of_kind g.T.Number.format (g.T.Number.seen Kind_of c.args.k) (sym (c.is_finite.ensures ∙ ap finite c.half.ensures) ∙ c.if-not-is_finite.false) (sym c.passes.ensures ∙ c.if-not-passes.false)
