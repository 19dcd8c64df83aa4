-- The tests, the room for the image, and what is answered. Assumes nothing.
use Rattle.std.proofs.Common.{◌≡◌, ◌&&◌, ◌++◌, rules}
use Rattle.std.specs.Float.{binary64}
use Rattle.filter.specs.Asked.{in_range, within, every}
use Rattle.filter.specs.Filters.{is_correcting_stepped}
use Rattle.filter.specs.Calls.{due, sized, named}
use Rattle.stepped.proofs.Steps.{observed_refused, observed_room, observed_answers}
use Rattle.stepped.proofs.image_correction.Goals as goal

pub returns-then-refusal-ne0 : goal.returns-then-refusal-ne0
returns-then-refusal-ne0 c =
    let s = c.args.f in
    let m = c.args.m in
    let fit : c.if-is_correcting_stepped.fits ≡ (is_correcting_stepped s.track.stage && (due s && s.track.kept.asked)) = search rules in
    let size : c.if-is_sized.sized ≡ (in_range 1 8 s.sheet.n && every within (sized m 1 4 ++ named s.track.kept m)) = search rules in
    observed_refused binary64 s m c.args.image.now c.first_refusal-refusal.ensures c.first_bad-found.ensures fit size c.if-refusal-ne0.true

pub take_in-requires : goal.take_in-requires
take_in-requires c =
    let s = c.args.f in
    let m = c.args.m in
    let fit : c.if-is_correcting_stepped.fits ≡ (is_correcting_stepped s.track.stage && (due s && s.track.kept.asked)) = search rules in
    let size : c.if-is_sized.sized ≡ (in_range 1 8 s.sheet.n && every within (sized m 1 4 ++ named s.track.kept m)) = search rules in
    observed_room binary64 s m c.args.image.now c.first_refusal-refusal.ensures c.first_bad-found.ensures fit size c.if-refusal-ne0.false

pub returns : goal.returns
returns c =
    let s = c.args.f in
    let m = c.args.m in
    let fit : c.if-is_correcting_stepped.fits ≡ (is_correcting_stepped s.track.stage && (due s && s.track.kept.asked)) = search rules in
    let size : c.if-is_sized.sized ≡ (in_range 1 8 s.sheet.n && every within (sized m 1 4 ++ named s.track.kept m)) = search rules in
    observed_answers binary64 s m c.args.image.now c.first_refusal-refusal.ensures c.first_bad-found.ensures fit size c.if-refusal-ne0.false c.take_in.ensures
