-- Past each test, what is left of the plan comes to the whole outcome.
use Prim.Native.Nat.{ℕ}
use Rattle.std.proofs.Common.{◌≡◌, refl, sym, ap, ◌∙◌}
use mathlib.Core.List.{List}
use lib.Ieee.{Float, Format}
use Rattle.std.proofs.lemmas.Result.{err_from_is_err_and}
use Rattle.floats.specs.declared.Refusal.TheVariants.{Pivot as PIVOT}
use Rattle.floats.specs.Refusal.{accepted}
use Rattle.root.specs.Answer.{root_outcome}
use Rattle.matrix.specs.Factor.{factor_of}
use Rattle.matrix.specs.Results.{worked, listed, finish, after}
use Rattle.matrix.proofs.Generic.{seen_accepted, seen_refused, was_accepted, was_refused}
use Rattle.matrix.proofs.Results.{Comes, begin, ends, goes, stops, after_goes, after_stops, root_goes, root_stops}
use Rattle.sigma.specs.Draw.{point_numbers, points_of, root_work, draw_plan, draw_of}
use Rattle.sigma.proofs.draw.generate_sigma_points.Goals as goal

-- past the factor, and past the root of N: the points are left
module _ (f : Format) (n : ℕ) (x p : List Float) (scale : Float) {l : List Float} (factored : accepted l ≡ worked (factor_of f PIVOT p n)) where
  root_left : Comes (draw_of f n x p scale) (after (root_work f scale) (λ (s : Float). after (listed (point_numbers n) (points_of f n x l s)) (λ (q : List Float). finish q)))
  root_left = after_goes (begin {p = draw_plan f n x p scale}) factored refl

  points_left : {s : Float} → accepted s ≡ root_outcome f scale → Comes (draw_of f n x p scale) (after (listed (point_numbers n) (points_of f n x l s)) (λ (q : List Float). finish q))
  points_left {s} h = root_goes f root_left h s refl

pub returns-in_err-l : goal.returns-in_err-l
returns-in_err-l g c =
    let p = err_from_is_err_and c.from_residual.result c.from_residual.ensures.1 in
    rw (p.1, p.2)
    (seen_refused g.T.Number.same List _
    ∙ sym (after_stops (begin {p = draw_plan _ _ _ _ _}) (was_refused g.T.Number.same List c.cholesky_decompose_lower.ensures c.in_err-l.was) refl))

pub returns-in_err-s : goal.returns-in_err-s
returns-in_err-s g c =
    let p = err_from_is_err_and c.from_residual-in_err-s.result c.from_residual-in_err-s.ensures.1 in
    rw (p.1, p.2)
    (seen_refused g.T.Number.same List _
    ∙ sym (root_stops g.T.Number.format
    (root_left g.T.Number.format c.args.n _ _ _ (ap accepted (g.met.T.Number.floats_seen_law _) ∙ was_accepted g.T.Number.same List c.cholesky_decompose_lower.ensures c.in_ok-l.was))
    (was_refused g.T.Number.same (λ A. A) c.square_root.ensures c.in_err-s.was) refl))

pub returns-then-not-all_finite : goal.returns-then-not-all_finite
returns-then-not-all_finite g c =
    let n = g.met.T.Number in
    seen_refused g.T.Number.same List _
    ∙ sym (stops (point_numbers c.args.n)
    (points_left g.T.Number.format c.args.n _ _ _ (ap accepted (n.floats_seen_law _) ∙ was_accepted g.T.Number.same List c.cholesky_decompose_lower.ensures c.in_ok-l.was)
    (ap accepted (n.float_law _) ∙ was_accepted g.T.Number.same (λ A. A) c.square_root.ensures c.in_ok-s.was))
    c.points-q.ensures c.all_finite.ensures c.if-not-all_finite.true)

pub returns : goal.returns
returns g c =
    let n = g.met.T.Number in
    seen_accepted g.T.Number.same List c.points-q.result
    ∙ ap accepted (sym (n.floats_seen_law c.points-q.result))
    ∙ sym (ends (goes (point_numbers c.args.n)
    (points_left g.T.Number.format c.args.n _ _ _ (ap accepted (n.floats_seen_law _) ∙ was_accepted g.T.Number.same List c.cholesky_decompose_lower.ensures c.in_ok-l.was)
    (ap accepted (n.float_law _) ∙ was_accepted g.T.Number.same (λ A. A) c.square_root.ensures c.in_ok-s.was))
    c.points-q.ensures c.all_finite.ensures c.if-not-all_finite.false))
