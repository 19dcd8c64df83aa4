-- Each answer is read off the bits, which stand for x.
use Rattle.std.proofs.Common.{◌≡◌, sym, ap, ◌∙◌, Bool}
use mathlib.Core.Bool.{not}
use lib.Ieee.{Float, eq, ne}
use Rattle.floats.specs.Refusal.{bad_lone, accepted}
use Rattle.root.proofs.Generic.{seen_accepted, seen_refused}
use Rattle.root.proofs.Ways.{unsigned, field_from, field_below, nan_out, zero_out, refused_out, root_out}
use Rattle.root.proofs.square_root.Goals as goal

-- what x != x tells
told : (x : Float) {e r t : Bool} → e ≡ eq x x → r ≡ not e → r ≡ t → ne x x ≡ t
unfolding ne
told x k r h = ap not (sym k) ∙ sym r ∙ h

pub returns-then-ne : goal.returns-then-ne
returns-then-ne g c =
    let n = g.T.Number in
    seen_refused n.same (λ A. A) bad_lone ∙ nan_out n.format (n.float c.args.x) (told (n.float c.args.x) (g.met.T.Number.eq_law c.args.x c.args.x) c.ne.ensures c.if-ne.true)

pub returns-then-b-SIGN-eq0 : goal.returns-then-b-SIGN-eq0
returns-then-b-SIGN-eq0 g c =
    let n = g.T.Number in
    let b = c.bits-b.result in
    seen_accepted n.same (λ A. A) c.args.x ∙ ap accepted (sym (g.met.T.Number.float_law c.args.x))
    ∙ zero_out n.format (n.float c.args.x) b c.bits-b.ensures.back (sym (unsigned n.format b (c.SIGN.ensures ∙ g.met.T.Rooted.sign_law)) ∙ c.if-b-SIGN-eq0.true)

pub returns-then-b-PLACES : goal.returns-then-b-PLACES
returns-then-b-PLACES g c =
    let n = g.T.Number in
    let r = g.met.T.Rooted in
    let b = c.bits-b.result in
    seen_refused n.same (λ A. A) bad_lone
    ∙ refused_out n.format (n.float c.args.x) b c.bits-b.ensures.back (λ e. c.if-b-SIGN-eq0.false (unsigned n.format b (c.SIGN.ensures ∙ r.sign_law) ∙ e))
    (field_from n.format b (c.PLACES.ensures ∙ r.places_law) (c.INFINITE.ensures ∙ r.infinite_law) c.if-b-PLACES.true)

pub returns : goal.returns
returns g c =
    let n = g.T.Number in
    let r = g.met.T.Rooted in
    let b = c.bits-b.result in
    seen_accepted n.same (λ A. A) c.positive_root.result ∙ ap accepted (sym (g.met.T.Number.float_law c.positive_root.result))
    ∙ root_out n.format (n.float c.args.x) b c.bits-b.ensures.back (λ e. c.if-b-SIGN-eq0.false (unsigned n.format b (c.SIGN.ensures ∙ r.sign_law) ∙ e))
    (field_below n.format b (c.PLACES.ensures ∙ r.places_law) (c.INFINITE.ensures ∙ r.infinite_law) c.if-b-PLACES.false) c.positive_root.ensures
