-- `Track::new` meets its contract. Assumes nothing.
use Rattle.std.proofs.Common.{◌≡◌, sym, ap, ap₂, ◌∙◌}
use lib.Ieee.{Float}
use Rattle.floats.specs.declared.Verdict.{Verdict}
use Rattle.floats.proofs.Refusals.{number_of}
use Rattle.filter.specs.declared.Track.{Track}
use Rattle.filter.specs.New.{from, new_track}
use Rattle.filter.proofs.Seen.{seen_new_track}
use Rattle.filter.proofs.Parts.{made_track, no_track}
use Rattle.filter.proofs.Track.new.Goals as goal
use Rattle.filter.proofs.Track.new.Goals.{then-refusal-eq0, else-refusal-eq0}

pub returns : goal.returns
returns g c =
    let n = g.T.Number in
    let told = number_of c.track_refusal-refusal.ensures in
    let is : n.seen Track c.if-refusal-eq0.track ≡ (new_track n.format c.args.n (from (n.floats c.args.x.now) (n.floats c.args.p.now))).track =
    elim c.if-refusal-eq0.branch [
      | then-refusal-eq0 w ↦ ap (n.seen Track) w.track-is ∙ w.track_from-track.ensures ∙ sym (made_track n.format c.args.n _ (sym told ∙ w.if-refusal-eq0.true))
      | else-refusal-eq0 w ↦ ap (n.seen Track) w.track-is ∙ w.empty_track-track.ensures ∙ sym (no_track n.format c.args.n _ (λ z. w.if-refusal-eq0.false (told ∙ z)))
    ] in
    seen_new_track n.same _ _ ∙ ap₂ (λ (v : Verdict) (t : Track Float). record { refusal = v; track = t }) c.track_refusal-refusal.ensures is
