-- `Sheet::new` meets its contract. Assumes nothing.
use Rattle.std.proofs.Common.{◌≡◌, sym, ap, ap₂, ◌∙◌}
use lib.Ieee.{Float}
use Rattle.floats.specs.declared.Verdict.{Verdict}
use Rattle.floats.proofs.Refusals.{number_of}
use Rattle.sigma.specs.declared.Params.{Params}
use Rattle.filter.specs.declared.Sheet.{Sheet}
use Rattle.filter.specs.New.{new_sheet}
use Rattle.filter.proofs.Seen.{seen_new_sheet}
use Rattle.filter.proofs.Parts.{made_sheet, no_sheet}
use Rattle.filter.proofs.Sheet.new.Goals as goal
use Rattle.filter.proofs.Sheet.new.Goals.{then-refusal-eq0, else-refusal-eq0}

pub returns : goal.returns
returns g c =
    let n = g.T.Number in
    let told = number_of c.sheet_refusal-refusal.ensures in
    let is : n.seen Sheet c.if-refusal-eq0.sheet ≡ (new_sheet n.format c.args.n (n.floats c.args.q.now) (n.seen Params c.args.params)).sheet =
    elim c.if-refusal-eq0.branch [
      | then-refusal-eq0 w ↦ ap (n.seen Sheet) w.sheet-is ∙ w.sheet_from-sheet.ensures ∙ sym (made_sheet n.format c.args.n _ _ (sym told ∙ w.if-refusal-eq0.true))
      | else-refusal-eq0 w ↦ ap (n.seen Sheet) w.sheet-is ∙ w.empty_sheet-sheet.ensures ∙ sym (no_sheet n.format c.args.n _ _ (λ z. w.if-refusal-eq0.false (told ∙ z)))
    ] in
    seen_new_sheet n.same _ _ ∙ ap₂ (λ (v : Verdict) (s : Sheet Float). record { refusal = v; sheet = s }) c.sheet_refusal-refusal.ensures is
