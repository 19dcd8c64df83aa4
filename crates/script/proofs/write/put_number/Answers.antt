-- A blank, then the digits that hold the float's bits. Assumes nothing.
use Rattle.std.proofs.Common.{ap, ◌∙◌}
use Rattle.script.specs.Page.{word_text}
use Rattle.script.proofs.Pages.{hex_text, number_put}
use Rattle.script.proofs.write.put_number.Goals as goal

pub returns-clause-value : goal.returns-clause-value
returns-clause-value g c =
    let a = c.args in
    let b = c.bits_of in
    let h = c.hex-k in
    let f = g.T.Number.format in
    let t = hex_text f (c.DIGITS.ensures ∙ g.met.T.Worded.digits_law) h.ensures.len b.ensures.short h.ensures.digits ∙ ap (word_text f) b.ensures.value in
    (number_put f (g.T.Number.float a.x) a.out.now a.at (c.put-next.ensures.value, c.put-next.ensures.out_after) t (c.put.ensures.value, c.put.ensures.out_after)).0

pub returns-clause-out_after : goal.returns-clause-out_after
returns-clause-out_after g c =
    let a = c.args in
    let b = c.bits_of in
    let h = c.hex-k in
    let f = g.T.Number.format in
    let t = hex_text f (c.DIGITS.ensures ∙ g.met.T.Worded.digits_law) h.ensures.len b.ensures.short h.ensures.digits ∙ ap (word_text f) b.ensures.value in
    (number_put f (g.T.Number.float a.x) a.out.now a.at (c.put-next.ensures.value, c.put-next.ensures.out_after) t (c.put.ensures.value, c.put.ensures.out_after)).1
