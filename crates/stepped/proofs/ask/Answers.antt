-- The tests, the point within those drawn, and what is answered. Assumes nothing.
use Rattle.std.proofs.Common.{◌≡◌, ◌≤◌, ◌+◌, ◌*◌, ◌&&◌, length, refl, rules, arith}
use Rattle.std.specs.Float.{binary64}
use Rattle.filter.specs.Filters.{is_stepped}
use Rattle.filter.specs.Calls.{due}
use Rattle.stepped.proofs.Steps.{ask_refused, ask_within, ask_answers}
use Rattle.stepped.proofs.ask.Goals as goal

pub returns-then-refusal-ne0 : goal.returns-then-refusal-ne0
returns-then-refusal-ne0 c =
    let s = c.args.f in
    let fit : c.if-is_stepped.fits ≡ (is_stepped s.track.stage && due s) = search rules in
    let r = ask_refused binary64 s c.args.out.now c.early_refusal-refusal.ensures fit c.is_sized-sized.ensures c.if-refusal-ne0.true in
    record { value = r.0; out_after = r.1 }

pub overflow_mul-at : goal.overflow_mul-at
overflow_mul-at c =
    let s = c.args.f in
    let fit : c.if-is_stepped.fits ≡ (is_stepped s.track.stage && due s) = search rules in
    omega (arith, (ask_within binary64 s c.args.out.now c.early_refusal-refusal.ensures fit c.is_sized-sized.ensures c.if-refusal-ne0.false).0)

pub copy-requires : goal.copy-requires
copy-requires c =
    let s = c.args.f in
    let fit : c.if-is_stepped.fits ≡ (is_stepped s.track.stage && due s) = search rules in
    let r = ask_within binary64 s c.args.out.now c.early_refusal-refusal.ensures fit c.is_sized-sized.ensures c.if-refusal-ne0.false in
    let long : length s.track.drawn_points ≡ 136 = search rules in
    (omega (arith, r.0), omega (arith, r.1))

pub returns : goal.returns
returns c =
    let s = c.args.f in
    let fit : c.if-is_stepped.fits ≡ (is_stepped s.track.stage && due s) = search rules in
    let long : length s.track.drawn_points ≡ 136 = search rules in
    let w = ask_within binary64 s c.args.out.now c.early_refusal-refusal.ensures fit c.is_sized-sized.ensures c.if-refusal-ne0.false in
    let within : s.track.kept.at * s.sheet.n + s.sheet.n ≤ length s.track.drawn_points = omega (arith, w.0) in
    let r = ask_answers binary64 s c.args.out.now c.early_refusal-refusal.ensures fit c.is_sized-sized.ensures c.if-refusal-ne0.false refl within c.copy.ensures in
    record { value = r.0; out_after = r.1 }
