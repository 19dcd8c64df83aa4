-- The points are there, and the buffer has room for them.
use Prim.Native.Nat.{ℕ}
use mathlib.Core.Path.{sym, ap, ap₂, ◌∙◌}
use native.Mathlib.Omega.{arith}
use Rattle.floats.specs.Fronts.{front}
use Rattle.floats.proofs.Fronts.{front_over}
use Rattle.floats.proofs.Numbers.{floats_long}
use Rattle.sigma.specs.Draw.{point_numbers}
use Rattle.filter.specs.Types.{Track, Weighted}
use Rattle.filter.specs.declared.Answer.{Answer}
use Rattle.filter.specs.Filters.{filter, with_drawn}
use Rattle.filter.proofs.Sizes.{within_both, numbers_le}
use Rattle.filter.proofs.Taken.{answering}
use Rattle.filter.proofs.Seen.{seen_filter, seen_answer, sheet_seen, track_seen, floats_front}
use Rattle.filter.proofs.Filter.opened.Goals as goal

pub copy_front-requires : goal.copy_front-requires
copy_front-requires g c =
    let n = c.args.self.now.sheet.n in
    let h = c.requires.0 in
    omega (arith, c.point_numbers.ensures ∙ within_both n n _ h h, numbers_le n n h h, c.requires.1)

pub returns-clause-value : goal.returns-clause-value
returns-clause-value g c =
    let s = g.T.Number.same in
    let self = c.args.self.now in
    let d : Weighted = record { weights = g.T.Number.floats c.args.weights.now; points = g.T.Number.floats c.args.points.now } in
    ap (g.T.Number.seen Answer) c.answer.ensures ∙ seen_answer s _ _
    ∙ ap₂ answering c.placeless.ensures
    (seen_filter s _ _ ∙ ap₂ filter (sym (sheet_seen s self)) (c.with_drawn-track.ensures ∙ ap (λ (t : Track). with_drawn t c.args.stage d) (sym (track_seen s self))))

pub returns-clause-out_after : goal.returns-clause-out_after
returns-clause-out_after g c =
    let law = g.met.T.Number in
    let n = c.args.self.now.sheet.n in
    let h = c.requires.0 in
    ap g.T.Number.floats c.copy_front.ensures ∙ floats_front law.floats_seen_law g.T.Number.same _ _ _
    ∙ ap (λ (j : ℕ). front j (g.T.Number.floats c.args.points.now) (g.T.Number.floats c.args.out.now)) (c.point_numbers.ensures ∙ within_both n n _ h h)
    ∙ front_over (point_numbers n) _ _ (omega (arith, floats_long law.floats_law c.args.points.now, numbers_le n n h h))
