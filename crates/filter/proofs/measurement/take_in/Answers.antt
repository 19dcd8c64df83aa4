-- Each test is right once the sizes are, and then the slices hold what is taken in.
use mathlib.Core.Path.{ap, ◌∙◌}
use native.Mathlib.Omega.{arith}
use lib.ListN.{take}
use Rattle.floats.specs.Fronts.{front}
use Rattle.floats.proofs.Numbers.{floats_long}
use Rattle.matrix.proofs.Generic.{blank}
use Rattle.filter.proofs.Seen.{floats_front}
use Rattle.filter.proofs.Measuring.{lent, lent_by_tests, lent_turned_away, lent_counts, lent_taken, seen_intake}
use Rattle.filter.proofs.measurement.take_in.Goals as goal

pub returns-then-refusal-ne0 : goal.returns-then-refusal-ne0
returns-then-refusal-ne0 g c =
    let n = g.met.T.Number in
    let f = g.T.Number.floats in
    let a = c.args in
    let l = lent a.fits a.n a.m (f a.z.now) (f a.r.now) (f a.observed.now) (take a.t (f a.turns.now)) a.plain a.passing in
    let told = lent_by_tests l c.square-mm.ensures c.point_numbers-k.ensures c.is_sized-sized.ensures c.all_long-long.ensures c.first_bad-in_noise.ensures c.next_bad-in_points.ensures c.next_bad-in_measurement.ensures c.next_bad-found.ensures c.first_refusal-refusal.ensures in
    c.refuse.ensures ∙ lent_turned_away l c.square-mm.ensures c.point_numbers-k.ensures told c.if-refusal-ne0.true

pub copy_front-requires : goal.copy_front-requires
copy_front-requires g c =
    let n = g.met.T.Number in
    let f = g.T.Number.floats in
    let a = c.args in
    let l = lent a.fits a.n a.m (f a.z.now) (f a.r.now) (f a.observed.now) (take a.t (f a.turns.now)) a.plain a.passing in
    let told = lent_by_tests l c.square-mm.ensures c.point_numbers-k.ensures c.is_sized-sized.ensures c.all_long-long.ensures c.first_bad-in_noise.ensures c.next_bad-in_points.ensures c.next_bad-in_measurement.ensures c.next_bad-found.ensures c.first_refusal-refusal.ensures in
    let h = lent_counts l c.square-mm.ensures c.point_numbers-k.ensures told c.if-refusal-ne0.false in
    omega (arith, h.0, h.1, floats_long n.floats_law a.z.now)

pub copy_front-requires-2 : goal.copy_front-requires-2
copy_front-requires-2 g c =
    let n = g.met.T.Number in
    let f = g.T.Number.floats in
    let a = c.args in
    let l = lent a.fits a.n a.m (f a.z.now) (f a.r.now) (f a.observed.now) (take a.t (f a.turns.now)) a.plain a.passing in
    let told = lent_by_tests l c.square-mm.ensures c.point_numbers-k.ensures c.is_sized-sized.ensures c.all_long-long.ensures c.first_bad-in_noise.ensures c.next_bad-in_points.ensures c.next_bad-in_measurement.ensures c.next_bad-found.ensures c.first_refusal-refusal.ensures in
    let h = lent_counts l c.square-mm.ensures c.point_numbers-k.ensures told c.if-refusal-ne0.false in
    omega (arith, h.2, h.3, floats_long n.floats_law a.r.now)

pub copy_front-requires-3 : goal.copy_front-requires-3
copy_front-requires-3 g c =
    let n = g.met.T.Number in
    let f = g.T.Number.floats in
    let a = c.args in
    let l = lent a.fits a.n a.m (f a.z.now) (f a.r.now) (f a.observed.now) (take a.t (f a.turns.now)) a.plain a.passing in
    let told = lent_by_tests l c.square-mm.ensures c.point_numbers-k.ensures c.is_sized-sized.ensures c.all_long-long.ensures c.first_bad-in_noise.ensures c.next_bad-in_points.ensures c.next_bad-in_measurement.ensures c.next_bad-found.ensures c.first_refusal-refusal.ensures in
    let h = lent_counts l c.square-mm.ensures c.point_numbers-k.ensures told c.if-refusal-ne0.false in
    omega (arith, h.4, h.5, floats_long n.floats_law a.observed.now)

pub returns : goal.returns
returns g c =
    let n = g.met.T.Number in
    let f = g.T.Number.floats in
    let a = c.args in
    let l = lent a.fits a.n a.m (f a.z.now) (f a.r.now) (f a.observed.now) (take a.t (f a.turns.now)) a.plain a.passing in
    let told = lent_by_tests l c.square-mm.ensures c.point_numbers-k.ensures c.is_sized-sized.ensures c.all_long-long.ensures c.first_bad-in_noise.ensures c.next_bad-in_points.ensures c.next_bad-in_measurement.ensures c.next_bad-found.ensures c.first_refusal-refusal.ensures in
    let law = n.floats_seen_law in
    let same = g.T.Number.same in
    seen_intake law same _ _ _ _
    ∙ lent_taken l c.square-mm.ensures c.point_numbers-k.ensures told c.if-refusal-ne0.false
    (ap f c.copy_front.ensures ∙ floats_front law same a.m a.z.now _ ∙ ap (front a.m (f a.z.now)) (blank n.floats_law 8 c.ZERO-taken_z.ensures n.zero_law))
    (ap f c.copy_front-2.ensures ∙ floats_front law same c.square-mm.result a.r.now _ ∙ ap (front c.square-mm.result (f a.r.now)) (blank n.floats_law 64 c.ZERO-taken_r.ensures n.zero_law))
    (ap f c.copy_front-3.ensures ∙ floats_front law same c.point_numbers-k.result a.observed.now _ ∙ ap (front c.point_numbers-k.result (f a.observed.now)) (blank n.floats_law 136 c.ZERO-taken_points.ensures n.zero_law))
