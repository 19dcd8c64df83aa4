-- One search after the other, then 6. Assumes nothing.
use Rattle.std.proofs.Common.{◌≡◌, Bool, ◌&&◌, take, rules, ap, ◌∙◌}
use Rattle.std.specs.Float.{binary64}
use Rattle.floats.specs.declared.Slice.TheVariants.{Covariance, Noise, Lone}
use Rattle.floats.proofs.Search.{Found, found_next}
use Rattle.sigma.specs.Weights.{weights_pass}
use Rattle.filter.specs.Asked.{passing, every}
use Rattle.filter.proofs.KindTests.{all_pass}
use Rattle.records.proofs.HalfTurns.{found_more}
use Rattle.records.proofs.Loaded.{judged_so}
use Rattle.records.proofs.read.contents_refusal.Goals as goal

pub returns : goal.returns
returns c =
    let in_x : Found _ _ = record { is = c.first_bad-in_x.ensures } in
    let in_q = found_next (found_next in_x Covariance _ c.next_bad-in_p.ensures) Noise _ c.next_bad-in_q.ensures in
    let in_turns : Found _ _ = record { is = c.first_bad_turn-in_turns.ensures } in
    let found = found_more (found_next in_q Lone _ c.next_bad-in_params.ensures) in_turns c.earlier-found.ensures in
    let pass : c.if-weights_pass.passing ≡ (weights_pass binary64 c.args.n c.args.params && every (passing binary64) (take c.args.n c.args.kinds)) = search rules in
    judged_so binary64 _ _ c.first_refusal.ensures found (pass ∙ ap (λ (t : Bool). weights_pass binary64 c.args.n c.args.params && t) (all_pass binary64 (take c.args.n c.args.kinds)))
