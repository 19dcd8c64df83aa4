-- The two digits that hold the byte are put. Assumes nothing.
use Rattle.std.proofs.Common.{ℕ, List, ap, ◌∙◌, arith}
use Rattle.io.specs.Digits.{last_digits}
use Rattle.script.specs.Page.{page, put_of}
use Rattle.script.proofs.Digits.{two}
use Rattle.script.proofs.hex.put_byte.Goals as goal

pub returns-clause-value : goal.returns-clause-value
returns-clause-value c =
    let a = c.args in
    let h = c.hex-k in
    c.put.ensures.value ∙ ap (λ (s : List ℕ). (put_of s (page a.out.now a.at)).used) (two c.from.result h.result h.ensures.len (omega arith) h.ensures.digits ∙ ap (last_digits 16 2) c.from.ensures)

pub returns-clause-out_after : goal.returns-clause-out_after
returns-clause-out_after c =
    let a = c.args in
    let h = c.hex-k in
    c.put.ensures.out_after ∙ ap (λ (s : List ℕ). (put_of s (page a.out.now a.at)).bytes) (two c.from.result h.result h.ensures.len (omega arith) h.ensures.digits ∙ ap (last_digits 16 2) c.from.ensures)
