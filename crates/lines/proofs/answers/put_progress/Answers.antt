-- How many images are in, whether the next point was asked for, m. Assumes nothing.
use Rattle.std.proofs.Common.{refl}
use Rattle.script.specs.Page.{page}
use Rattle.script.proofs.Pages.{made}
use Rattle.lines.proofs.answers.put_progress.Goals as goal

pub returns : goal.returns
returns g c =
    let at = c.put-at.ensures in
    let asked = c.put-at-2.ensures in
    let bit = c.put_bit-at.ensures in
    let m = c.put-at-3.ensures in
    record {
      counted = page c.put_decimal-at.new.out c.put_decimal-at.result;
      count = rw (← made (at.value, at.out_after)) c.put_decimal-at.ensures;
      after = record {
        counted = page c.put_decimal.new.out c.put_decimal.result;
        count = rw (← made (asked.value, asked.out_after), ← made (bit.value, bit.out_after), ← made (m.value, m.out_after)) c.put_decimal.ensures;
        after = (refl, refl);
      };
    }
