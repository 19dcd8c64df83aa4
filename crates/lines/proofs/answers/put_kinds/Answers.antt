-- Each pass puts one kind. Assumes nothing.
use Rattle.std.proofs.Common.{List, take, ap, ◌∙◌, sym, refl}
use Prim.Native.Nat.{min}
use Rattle.angles.specs.declared.Kind.{Kind}
use Rattle.angles.specs.declared.Kind.TheVariants.{Plain}
use Rattle.angles.proofs.SeenKinds.{kinds_long, kinds_at, kinds_take}
use Rattle.script.proofs.Pages.{front_is}
use Rattle.lines.proofs.Pages.{listed_more, listed_over}
use Rattle.lines.proofs.answers.put_kinds.Goals as goal

pub loop-k-init : goal.loop-k-init
loop-k-init g c = refl

pub loop-k-preserved : goal.loop-k-preserved
loop-k-preserved g c =
    let same = g.T.Number.same in
    let k = ap (g.T.Number.seen Kind) c.k-item.is ∙ sym (kinds_at same _ _ Plain c.k-item.result c.loop-k-test.true) in
    listed_more g.T.Number.format _ _ Plain _ _ _ c.loop-k.invariant (rw (kinds_long same _) c.loop-k-test.true) (rw (← k) c.put_kind-at.ensures)

pub returns : goal.returns
returns g c =
    let a = c.args in
    let same = g.T.Number.same in
    let kinds = g.T.Number.seen (λ A. List (Kind A)) a.kinds.now in
    let items = take c.min.result a.kinds.now in
    rw (← front_is a.n kinds (c.min.ensures ∙ ap (λ m. min a.n m) (sym (kinds_long same a.kinds.now))), ← kinds_take same a.kinds.now c.min.result)
    (listed_over g.T.Number.format (g.T.Number.seen (λ A. List (Kind A)) items) c.loop-k.k-index _ c.loop-k.invariant (rw (kinds_long same items) c.loop-k-test.false))
