-- The parts are laid one after the other. Assumes nothing.
use Rattle.std.proofs.Common.{ℕ, ◌+◌, ◌*◌, ◌≤◌, List, [], ◌∷◌, length, take, refl, rules, arith, ap, ◌∙◌}
use Rattle.std.proofs.Math.ListN.{set}
use Rattle.floats.specs.Fronts.{over}
use Rattle.pieces.specs.Bytes.{number_bytes, kind_bytes, written}
use Rattle.filter.specs.Records.{bytes_of}
use Rattle.records.proofs.Laid.{Laid, laid_more, laid_end, joined, length_numbers, length_kinds}
use Rattle.records.proofs.write.put_record.Goals as goal

pub returns : goal.returns
unfolding bytes_of
returns c =
    let s = c.args.f in
    let out = c.args.out.now in
    let n = s.sheet.n in
    let k = n * n in
    let v = s.sheet.params.alpha ∷ s.sheet.params.beta ∷ s.sheet.params.kappa ∷ [] in
    let head = 87 ∷ 80 ∷ n ∷ [] in
    let fits_x : n ≤ length s.track.x = search rules in
    let fits_p : k ≤ length s.track.p = search rules in
    let fits_q : k ≤ length s.sheet.q = search rules in
    let laid_head : Laid out head 3 (set (set (set out 0 87) 1 80) 2 n) = record { is = refl; here = refl } in
    let x = length_numbers n s.track.x fits_x in
    let laid_x = laid_more laid_head (written number_bytes (take n s.track.x)) {to = 3 + 8 * n} c.put_numbers.ensures (omega (arith, x)) in
    let p = length_numbers k s.track.p fits_p in
    let laid_p = laid_more laid_x (written number_bytes (take k s.track.p)) {to = 3 + 8 * n + 8 * k} c.put_numbers-2.ensures (omega (arith, p)) in
    let q = length_numbers k s.sheet.q fits_q in
    let laid_q = laid_more laid_p (written number_bytes (take k s.sheet.q)) {to = 3 + 8 * n + 16 * k} c.put_numbers-3.ensures (omega (arith, q)) in
    let r = length_numbers 3 v (omega arith) in
    let laid_params = laid_more laid_q (written number_bytes v) {to = 27 + 8 * n + 16 * k} c.put_numbers-4.ensures (omega (arith, r)) in
    let laid_kinds = laid_more laid_params (written kind_bytes (take n s.sheet.kinds)) {to = 27 + 8 * n + 16 * k + length (written kind_bytes (take n s.sheet.kinds))} c.put_kinds.ensures refl in
    laid_end laid_kinds (omega (arith, length_kinds n s.sheet.kinds, c.requires.1.1))
    ∙ ap (λ (w : List ℕ). over w out) (joined head (take n s.track.x) (take k s.track.p) (take k s.sheet.q) v (written kind_bytes (take n s.sheet.kinds)))
