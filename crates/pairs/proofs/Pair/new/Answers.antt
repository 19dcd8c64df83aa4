-- By the parts. Assumes nothing.
use Rattle.std.proofs.Common.{[], ◌∷◌, sym, ap, ap₂, ◌∙◌}
use Rattle.std.specs.Float.{binary64}
use Rattle.floats.specs.declared.Verdict.{Verdict}
use Rattle.floats.proofs.Refusals.{number_of}
use Rattle.filter.specs.Types.{Sheet}
use Rattle.filter.specs.Types.{Track}
use Rattle.filter.specs.Types.{NewSheet}
use Rattle.filter.specs.Types.{NewTrack}
use Rattle.filter.specs.New.{from, sheet_from, track_from}
use Rattle.filter.proofs.Order.{Gives}
use Rattle.filter.proofs.Parts.{none_sooner, new_stopped, new_made, sheet_told, start_told, made_track, made_sheet}
use Rattle.pairs.specs.declared.Pair.{Pair}
use Rattle.pairs.specs.declared.PairAnswer.{PairAnswer}
use Rattle.pairs.specs.Pairs.{pair}
use Rattle.pairs.specs.NewPair.{empty_pair, new_pair_asks, new_pair_of}
use Rattle.pairs.proofs.Pair.new.Goals as goal

abbrev answer : Pair → Verdict → PairAnswer
answer p r = record { pair = p; refusal = r }

abbrev of_track : NewTrack → Verdict
of_track t = t.refusal

abbrev of_sheet : NewSheet → Verdict
of_sheet t = t.refusal

pub returns-then-refusal-ne0 : goal.returns-then-refusal-ne0
unfolding new_pair_of
returns-then-refusal-ne0 c =
    let a = c.args in
    let made = pair (sheet_from a.n a.q.now a.params) (track_from a.n (from a.x1.now a.p1.now)) (track_from a.n (from a.x2.now a.p2.now)) in
    let asked : Gives binary64 (new_pair_asks a.n a.x1.now a.p1.now a.x2.now a.p2.now a.q.now a.params) =
    record {
      told = _;
      is = c.sooner-refusal.ensures ∙ start_told binary64 _ _ (_ ∷ []) _ _ (ap of_track c.new-a.ensures)
          (c.sooner.ensures ∙ start_told binary64 _ _ [] _ _ (ap of_track c.new-b.ensures) (ap of_sheet c.new-c.ensures ∙ sheet_told binary64 _ _ _));
    } in
    let q = new_stopped binary64 _ made empty_pair asked.is c.if-refusal-ne0.true in
    ap₂ answer (ap₂ (λ (s : Sheet) (t : Track). pair s t t) c.empty_sheet.ensures c.empty_track-track.ensures ∙ q.0) q.1

pub returns : goal.returns
unfolding new_pair_of
returns c =
    let a = c.args in
    let made = pair (sheet_from a.n a.q.now a.params) (track_from a.n (from a.x1.now a.p1.now)) (track_from a.n (from a.x2.now a.p2.now)) in
    let asked : Gives binary64 (new_pair_asks a.n a.x1.now a.p1.now a.x2.now a.p2.now a.q.now a.params) =
    record {
      told = _;
      is = c.sooner-refusal.ensures ∙ start_told binary64 _ _ (_ ∷ []) _ _ (ap of_track c.new-a.ensures)
          (c.sooner.ensures ∙ start_told binary64 _ _ [] _ _ (ap of_track c.new-b.ensures) (ap of_sheet c.new-c.ensures ∙ sheet_told binary64 _ _ _));
    } in
    let z = c.if-refusal-ne0.false in
    let y = none_sooner _ _ (sym (number_of c.sooner-refusal.ensures) ∙ z) in
    let x = none_sooner _ _ (sym (number_of c.sooner.ensures) ∙ y.1) in
    let q = new_made binary64 _ made empty_pair asked.is z in
    let sheet_is = ap (λ (v : NewSheet). v.sheet) c.new-c.ensures ∙ made_sheet binary64 _ _ _ (sym (number_of (ap of_sheet c.new-c.ensures)) ∙ x.1) in
    let first_is = ap (λ (v : NewTrack). v.track) c.new-a.ensures ∙ made_track binary64 _ _ (sym (number_of (ap of_track c.new-a.ensures)) ∙ y.0) in
    let second_is = ap (λ (v : NewTrack). v.track) c.new-b.ensures ∙ made_track binary64 _ _ (sym (number_of (ap of_track c.new-b.ensures)) ∙ x.0) in
    ap₂ answer (ap₂ (λ (k : Sheet) (m : Track). pair k m c.new-b.result.track) sheet_is first_is ∙ ap (pair _ _) second_is ∙ q.0) q.1
