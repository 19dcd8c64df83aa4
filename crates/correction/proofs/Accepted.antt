-- What an accepted correction gives, in either close: x and P of their lengths, finite over the numbers in use and +0 past them. Assumes nothing.
use Prim.Native.Nat.{◌*◌, ◌≤◌}
use mathlib.Core.Path.{◌≡◌, subst}
use lib.Ieee.{Format}
use Rattle.floats.specs.Refusal.{accepted}
use Rattle.matrix.specs.Results.{run}
use Rattle.matrix.specs.Inverse.{inverse_of}
use Rattle.matrix.specs.Product.{transb_of}
use Rattle.matrix.proofs.Cells.{placed, minus_placed}
use Rattle.sigma.specs.Predict.{Moment}
use Rattle.sigma.proofs.Flat.{cells_in}
use Rattle.sigma.proofs.Accepted.{MomentInUse, placed_in_use, next, next_listed, last}
use Rattle.correction.specs.Leaves.{innovation_of, shifted_at}
use Rattle.correction.specs.Correct.{Head, apply_plan}

pub apply_accepted : (f : Format) (h : Head) (a : Moment) → h.n ≤ 8 → run (apply_plan f h) ≡ accepted a → MomentInUse h.n a
apply_accepted f h a o e =
    let n = h.n in
    let m = h.m in
    let zm = next_listed m _ _ a e in
    let s = next_listed (m * m) _ _ a zm.1 in
    let xm = next_listed n _ _ a s.1 in
    let c = next_listed (n * m) _ _ a xm.1 in
    let l = next _ _ a c.1 in
    let v = next_listed (m * m) _ _ a l.2 in
    let k = next_listed (n * m) _ _ a v.1 in
    let y = next_listed m _ _ a k.1 in
    let x = next_listed n _ _ a y.1 in
    let p = next_listed (n * n) _ _ a x.1 in
    let gain = transb_of f h.c (inverse_of f l.0 m) m n m in
    subst (MomentInUse n) (last p.1)
    (record {
      x_in_use = placed_in_use (placed (shifted_at f m h.x gain (innovation_of f m h.z h.zm h.measured)) n 8 o) x.0;
      p_in_use = placed_in_use (minus_placed f (n * n) h.p (transb_of f h.c gain m n n) (cells_in n n o o)) p.0;
    })
