-- Past its first tests it is the whole-list close on the images. Assumes nothing.
use Rattle.std.proofs.Common.{refl}
use Rattle.std.specs.Float.{binary64}
use Rattle.filter.specs.Calls.{close_correction_flat_stepped}
use Rattle.stepped.proofs.Ways.{Tested, unready, whole_closed}
use Rattle.stepped.proofs.close_correction_flat.Goals as goal

pub returns-then-refusal-ne0 : goal.returns-then-refusal-ne0
returns-then-refusal-ne0 c =
    let a = c.args in
    let t : Tested a.f (close_correction_flat_stepped a.m a.z.now a.r.now) c.unready-refusal.result = record { mine = c.is_correcting_stepped-own.result; names = c.is_named-named.result; is = c.unready-refusal.ensures; mine_is = c.is_correcting_stepped-own.ensures; names_is = c.is_named-named.ensures } in
    unready binary64 t c.if-refusal-ne0.true

pub returns : goal.returns
returns c =
    let a = c.args in
    let t : Tested a.f (close_correction_flat_stepped a.m a.z.now a.r.now) c.unready-refusal.result = record { mine = c.is_correcting_stepped-own.result; names = c.is_named-named.result; is = c.unready-refusal.ensures; mine_is = c.is_correcting_stepped-own.ensures; names_is = c.is_named-named.ensures } in
    whole_closed binary64 t c.if-refusal-ne0.false c.at_stage-g.ensures refl c.close_correction_flat-a.ensures c.unless_refused.ensures
