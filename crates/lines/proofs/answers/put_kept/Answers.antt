-- The way, the progress, the images. Assumes nothing.
use Rattle.filter.proofs.Seen.{states_seen, stage_seen}
use Rattle.script.proofs.Pages.{made}
use Rattle.lines.proofs.Seen.{at_seen, asked_seen, m_seen, images_seen}
use Rattle.lines.proofs.answers.put_kept.Goals as goal

pub returns : goal.returns
returns g c =
    let law = g.met.T.Number.floats_seen_law in
    let same = g.T.Number.same in
    let s = c.args.filter in
    let way = c.put_way-at.ensures in
    let progress = c.put_progress-at.ensures in
    rw (at_seen same s, asked_seen same s, m_seen same s, stage_seen same s, ← made (way.value, way.out_after))
    record {
      counted = progress.counted;
      count = progress.count;
      after = record {
        counted = progress.after.counted;
        count = progress.after.count;
        after = rw (← images_seen law same s, states_seen same s, ← c.image_numbers-k.ensures, ← made progress.after.after) c.put_labelled.ensures;
      };
    }
