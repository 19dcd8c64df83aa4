-- s takes one digit more where the exponent is odd, and the root's bits are put together from its exponent and its digits.
use Rattle.std.proofs.Common.{◌≡◌, ◌+◌, ◌^◌, ◌<◌, sym, ◌∙◌, arith}
use lib.Bits.{and_mask}
use lib.Ieee.{prec}
use lib.Pow.{pow-add}
use Rattle.root.proofs.Scaled.{evened, odd_up, even_up}
use Rattle.root.proofs.Ways.{few_near, bits_out}
use Rattle.root.proofs.normal_root.Goals as goal
use Rattle.root.proofs.normal_root.Goals.{then-a-eq1, else-a-eq1, After-PLACES}

joined : (g : _) (c : After-PLACES g) → c.if-a-eq1.d ≡ evened c.args.s c.args.a
joined g c =
    let s = c.args.s in
    let a = c.args.a in
    elim c.if-a-eq1.branch [
      | then-a-eq1 w ↦ odd_up s a _ (sym (and_mask a 1) ∙ w.if-a-eq1.true) w.d-is
      | else-a-eq1 w ↦ even_up s a _ (λ e. w.if-a-eq1.false (and_mask a 1 ∙ e)) w.d-is
    ]

-- a digit more at most
few : (g : _) (c : After-PLACES g) → c.if-a-eq1.d < 2 ^ (prec g.T.Number.format + 1)
few g c =
    let p = pow-add 2 (prec g.T.Number.format) 1 in
    elim c.if-a-eq1.branch [ then-a-eq1 w ↦ omega (arith, p, c.requires.digits.1) | else-a-eq1 w ↦ omega (arith, p, c.requires.digits.1) ]

pub returns : goal.returns
returns g c =
    let r = g.met.T.Rooted in
    let d = c.requires.digits in
    let w = (goal.at.returns g c).After-PLACES in
    λ n e. c.of_bits.ensures ∙ bits_out _ c.args.s c.args.a d.0 d.1 c.requires.exponent (joined g w) (few_near _ (few g w) c.nearest_root-q.ensures) (c.PLACES.ensures ∙ r.places_law) (c.LEADING.ensures ∙ r.leading_law) n e
