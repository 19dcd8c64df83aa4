-- Past each test, what is left of the plan comes to the whole outcome.
use Rattle.std.proofs.Common.{rules, ◌*◌, List, refl, sym, ap, ◌∙◌}
use native.Mathlib.Omega.{arith}
use Rattle.std.proofs.lemmas.Result.{err_from_is_err_and}
use Rattle.floats.specs.Refusal.{Outcome, accepted}
use Rattle.angles.specs.declared.Kind.{Kind}
use Rattle.matrix.specs.Results.{run}
use Rattle.matrix.specs.Sums.{minus_of}
use Rattle.matrix.proofs.Generic.{seen_accepted, seen_refused, was_accepted, was_refused}
use Rattle.matrix.proofs.Results.{begin, ends, after_goes, after_stops}
use Rattle.sigma.specs.declared.Moments.{Moments}
use Rattle.sigma.specs.Predict.{Moment}
use Rattle.sigma.proofs.Flat.{cells_in}
use Rattle.sigma.proofs.Generic.{seen_moments}
use Rattle.sigma.proofs.Plans.{Reached}
use Rattle.correction.specs.Correct.{apply_plan}
use Rattle.correction.proofs.Generic.{listed_goes, listed_stops}
use Rattle.correction.proofs.apply_correction.Given.{Over}
use Rattle.correction.proofs.apply_correction.Goals.{In_ok-listed-4, In_ok-listed-6}
use Rattle.correction.proofs.apply_correction.Goals as goal

-- ---- what the close has made

pub returns-in_err-listed : goal.returns-in_err-listed
returns-in_err-listed g c =
    let e = err_from_is_err_and c.from_residual.result c.from_residual.ensures.1 in
    rw (e.1, e.2)
    (seen_refused g.T.Number.same Moments _
    ∙ sym (listed_stops c.args.m begin refl c.listed.ensures c.in_err-listed.was))

pub returns-in_err-listed-2 : goal.returns-in_err-listed-2
returns-in_err-listed-2 g c =
    let e = err_from_is_err_and c.from_residual-in_err-listed-2.result c.from_residual-in_err-listed-2.ensures.1 in
    rw (e.1, e.2)
    (seen_refused g.T.Number.same Moments _
    ∙ sym (listed_stops (c.args.m * c.args.m)
    (listed_goes c.args.m begin refl c.listed.ensures c.in_ok-listed.was)
    refl c.listed-2.ensures c.in_err-listed-2.was))

pub returns-in_err-listed-3 : goal.returns-in_err-listed-3
returns-in_err-listed-3 g c =
    let e = err_from_is_err_and c.from_residual-in_err-listed-3.result c.from_residual-in_err-listed-3.ensures.1 in
    rw (e.1, e.2)
    (seen_refused g.T.Number.same Moments _
    ∙ sym (listed_stops c.args.n
    (listed_goes (c.args.m * c.args.m)
    (listed_goes c.args.m begin refl c.listed.ensures c.in_ok-listed.was)
    refl c.listed-2.ensures c.in_ok-listed-2.was)
    refl c.listed-3.ensures c.in_err-listed-3.was))

pub returns-in_err-listed-4 : goal.returns-in_err-listed-4
returns-in_err-listed-4 g c =
    let e = err_from_is_err_and c.from_residual-in_err-listed-4.result c.from_residual-in_err-listed-4.ensures.1 in
    rw (e.1, e.2)
    (seen_refused g.T.Number.same Moments _
    ∙ sym (listed_stops (c.args.n * c.args.m)
    (listed_goes c.args.n
    (listed_goes (c.args.m * c.args.m)
    (listed_goes c.args.m begin refl c.listed.ensures c.in_ok-listed.was)
    refl c.listed-2.ensures c.in_ok-listed-2.was)
    refl c.listed-3.ensures c.in_ok-listed-3.was)
    refl c.listed-4.ensures c.in_err-listed-4.was))

-- ---- past that, up to the gain

-- what the call comes to
abbrev whole_4 : (g : Over) → In_ok-listed-4 g → Outcome Moment
whole_4 g c =
    let n = g.T.Number in
    run (apply_plan n.format (record { n = c.args.n; m = c.args.m; x = n.floats c.args.x.now; p = n.floats c.args.p.now; z = n.floats c.args.z.now; measured = n.seen (λ A. List (Kind A)) c.args.measured.now; zm = n.floats c.args.zm.now; s = n.floats c.args.s.now; xm = n.floats c.args.xm.now; c = n.floats c.args.c.now }))

abbrev headed : (g : Over) (c : In_ok-listed-4 g) → Reached (whole_4 g c)
headed g c =
    record {
      plan = _;
      comes = (listed_goes (c.args.n * c.args.m)
          (listed_goes c.args.n
          (listed_goes (c.args.m * c.args.m)
          (listed_goes c.args.m begin refl c.listed.ensures c.in_ok-listed.was)
          refl c.listed-2.ensures c.in_ok-listed-2.was)
          refl c.listed-3.ensures c.in_ok-listed-3.was)
          refl c.listed-4.ensures c.in_ok-listed-4.was);
    }

pub returns-in_err-l : goal.returns-in_err-l
returns-in_err-l g c =
    let e = err_from_is_err_and c.from_residual-in_err-l.result c.from_residual-in_err-l.ensures.1 in
    rw (e.1, e.2)
    (seen_refused g.T.Number.same Moments _
    ∙ sym (after_stops
    (headed g (goal.at.returns-in_err-l g c).In_ok-listed-4).comes
    (was_refused g.T.Number.same List c.cholesky_decompose_lower.ensures c.in_err-l.was) refl))

pub returns-in_err-listed-5 : goal.returns-in_err-listed-5
returns-in_err-listed-5 g c =
    let e = err_from_is_err_and c.from_residual-in_err-listed-5.result c.from_residual-in_err-listed-5.ensures.1 in
    rw (e.1, e.2)
    (seen_refused g.T.Number.same Moments _
    ∙ sym (listed_stops (c.args.m * c.args.m)
    (after_goes
    (headed g (goal.at.returns-in_err-listed-5 g c).In_ok-listed-4).comes
    (ap accepted (g.met.T.Number.floats_seen_law _) ∙ was_accepted g.T.Number.same List c.cholesky_decompose_lower.ensures c.in_ok-l.was) refl)
    c.invert_l_cholesky-v.ensures c.listed-5.ensures c.in_err-listed-5.was))

pub returns-in_err-listed-6 : goal.returns-in_err-listed-6
returns-in_err-listed-6 g c =
    let e = err_from_is_err_and c.from_residual-in_err-listed-6.result c.from_residual-in_err-listed-6.ensures.1 in
    rw (e.1, e.2)
    (seen_refused g.T.Number.same Moments _
    ∙ sym (listed_stops (c.args.n * c.args.m)
    (listed_goes (c.args.m * c.args.m)
    (after_goes
    (headed g (goal.at.returns-in_err-listed-6 g c).In_ok-listed-4).comes
    (ap accepted (g.met.T.Number.floats_seen_law _) ∙ was_accepted g.T.Number.same List c.cholesky_decompose_lower.ensures c.in_ok-l.was) refl)
    c.invert_l_cholesky-v.ensures c.listed-5.ensures c.in_ok-listed-5.was)
    c.mult_transb-k.ensures c.listed-6.ensures c.in_err-listed-6.was))

-- ---- past the gain

abbrev whole_6 : (g : Over) → In_ok-listed-6 g → Outcome Moment
whole_6 g c =
    let n = g.T.Number in
    run (apply_plan n.format (record { n = c.args.n; m = c.args.m; x = n.floats c.args.x.now; p = n.floats c.args.p.now; z = n.floats c.args.z.now; measured = n.seen (λ A. List (Kind A)) c.args.measured.now; zm = n.floats c.args.zm.now; s = n.floats c.args.s.now; xm = n.floats c.args.xm.now; c = n.floats c.args.c.now }))

abbrev gained : (g : Over) (c : In_ok-listed-6 g) → Reached (whole_6 g c)
gained g c =
    record {
      plan = _;
      comes = (listed_goes (c.args.n * c.args.m)
          (listed_goes (c.args.m * c.args.m)
          (after_goes
          (listed_goes (c.args.n * c.args.m)
          (listed_goes c.args.n
          (listed_goes (c.args.m * c.args.m)
          (listed_goes c.args.m begin refl c.listed.ensures c.in_ok-listed.was)
          refl c.listed-2.ensures c.in_ok-listed-2.was)
          refl c.listed-3.ensures c.in_ok-listed-3.was)
          refl c.listed-4.ensures c.in_ok-listed-4.was)
          (ap accepted (g.met.T.Number.floats_seen_law _) ∙ was_accepted g.T.Number.same List c.cholesky_decompose_lower.ensures c.in_ok-l.was) refl)
          c.invert_l_cholesky-v.ensures c.listed-5.ensures c.in_ok-listed-5.was)
          c.mult_transb-k.ensures c.listed-6.ensures c.in_ok-listed-6.was);
    }

pub returns-in_err-listed-7 : goal.returns-in_err-listed-7
returns-in_err-listed-7 g c =
    let e = err_from_is_err_and c.from_residual-in_err-listed-7.result c.from_residual-in_err-listed-7.ensures.1 in
    rw (e.1, e.2)
    (seen_refused g.T.Number.same Moments _
    ∙ sym (listed_stops c.args.m
    (gained g (goal.at.returns-in_err-listed-7 g c).In_ok-listed-6).comes
    c.innovation-y.ensures c.listed-7.ensures c.in_err-listed-7.was))

pub returns-in_err-listed-8 : goal.returns-in_err-listed-8
returns-in_err-listed-8 g c =
    let e = err_from_is_err_and c.from_residual-in_err-listed-8.result c.from_residual-in_err-listed-8.ensures.1 in
    rw (e.1, e.2)
    (seen_refused g.T.Number.same Moments _
    ∙ sym (listed_stops c.args.n
    (listed_goes c.args.m
    (gained g (goal.at.returns-in_err-listed-8 g c).In_ok-listed-6).comes
    c.innovation-y.ensures c.listed-7.ensures c.in_ok-listed-7.was)
    c.shifted-x.ensures c.listed-8.ensures c.in_err-listed-8.was))

pub returns-in_err-listed-9 : goal.returns-in_err-listed-9
returns-in_err-listed-9 g c =
    let e = err_from_is_err_and c.from_residual-in_err-listed-9.result c.from_residual-in_err-listed-9.ensures.1 in
    rw (e.1, e.2)
    (seen_refused g.T.Number.same Moments _
    ∙ sym (listed_stops (c.args.n * c.args.n)
    (listed_goes c.args.n
    (listed_goes c.args.m
    (gained g (goal.at.returns-in_err-listed-9 g c).In_ok-listed-6).comes
    c.innovation-y.ensures c.listed-7.ensures c.in_ok-listed-7.was)
    c.shifted-x.ensures c.listed-8.ensures c.in_ok-listed-8.was)
    (c.minus-p.ensures ∙ ap (minus_of g.T.Number.format (c.args.n * c.args.n) _) c.mult_transb-ck.ensures) c.listed-9.ensures c.in_err-listed-9.was))

pub returns : goal.returns
returns g c =
    seen_accepted g.T.Number.same Moments _
    ∙ ap accepted (seen_moments g.met.T.Number.floats_seen_law g.T.Number.same _)
    ∙ sym (ends
    (listed_goes (c.args.n * c.args.n)
    (listed_goes c.args.n
    (listed_goes c.args.m
    (gained g (goal.at.returns g c).In_ok-listed-6).comes
    c.innovation-y.ensures c.listed-7.ensures c.in_ok-listed-7.was)
    c.shifted-x.ensures c.listed-8.ensures c.in_ok-listed-8.was)
    (c.minus-p.ensures ∙ ap (minus_of g.T.Number.format (c.args.n * c.args.n) _) c.mult_transb-ck.ensures) c.listed-9.ensures c.in_ok-listed-9.was))

-- ---- what a callee asks

pub minus-p-requires : goal.minus-p-requires
minus-p-requires g c = (search rules, cells_in c.args.n c.args.n (omega arith) (omega arith))
