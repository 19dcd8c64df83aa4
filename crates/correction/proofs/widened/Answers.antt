-- A list of four is its four kinds.
use Rattle.std.proofs.Common.{◌≡◌, List, ◌∷◌, [], length, ap}
use native.Mathlib.Omega.{arith}
use lib.ListN.{get_or}
use Rattle.std.proofs.lemmas.List.{get_or_default}
use Rattle.floats.proofs.Fronts.{four}
use Rattle.angles.specs.declared.Kind.{Kind}
use Rattle.angles.specs.declared.Kind.TheVariants.{Plain}
use Rattle.correction.specs.Leaves.{widened}
use Rattle.correction.proofs.widened.Goals as goal

pub returns : goal.returns
returns g c =
    g.T.Number.same
    (λ A s. (k : List (Kind A)) (a b d e : Kind A) → length k ≡ 4 → s (λ B. List (Kind B)) (get_or k 0 a ∷ get_or k 1 b ∷ get_or k 2 d ∷ get_or k 3 e ∷ Plain ∷ Plain ∷ Plain ∷ Plain ∷ []) ≡ widened (s (λ B. List (Kind B)) k))
    (λ k a b d e h. rw (get_or_default k 1 b a (omega arith), get_or_default k 2 d a (omega arith), get_or_default k 3 e a (omega arith)) (ap widened (four k a h)))
    c.args.kinds _ _ _ _ (omega arith)
