-- What is compared is q * q + q with d * 2 ^ 52, by the laws of `Judged`.
use Rattle.std.proofs.Common.{◌≡◌, ℕ, ◌+◌, ◌*◌, ◌^◌, ◌<◌, true, false, refl, arith}
use mathlib.Core.Bool.{false≢true}
use lib.Dec.{lit<}
use Rattle.root.specs.Definition.{near_root}
use Rattle.root.proofs.Squares.{near_range}
use Rattle.root.proofs.Judged.{Near, near_told, near_only, halves}
use Rattle.root.proofs.wide.is_nearest_root.Goals as goal

-- what is answered where q is not near
denied : (d q : ℕ) → d < 2 ^ 54 → (Near (d * 2 ^ 52) q → ⊥) → (false ≡ true → q ≡ near_root 53 (d * 2 ^ 52)) × (0 < d → q ≡ near_root 53 (d * 2 ^ 52) → false ≡ true)
denied d q h k = ((λ e. absurd (false≢true e)), (λ p e. absurd (k (near_told 53 (d * 2 ^ 52) q (omega arith) (omega arith) e))))

-- the root is at most 2 ^ 53
pub returns-then-q-gt9007199254740992 : goal.returns-then-q-gt9007199254740992
returns-then-q-gt9007199254740992 c =
    let d = c.args.d in
    let q = c.args.q in
    denied d q c.requires
    (λ (n : Near (d * 2 ^ 52) q).
    let e = near_only 53 (d * 2 ^ 52) q (omega arith) n in
    let r = near_range 53 (d * 2 ^ 52) 0 (2 ^ 53 + 1) (omega arith) (lit< tt) (omega arith) (omega arith) in
    omega arith)

pub returns-then-first-d : goal.returns-then-first-d
returns-then-first-d c = let m = halves c.args.q (omega arith) in denied c.args.d c.args.q c.requires (λ n. omega arith)

pub returns-then-above-gt3 : goal.returns-then-above-gt3
returns-then-above-gt3 c = let m = halves c.args.q (omega arith) in denied c.args.d c.args.q c.requires (λ n. omega arith)

pub returns-then-rest-q : goal.returns-then-rest-q
returns-then-rest-q c = let m = halves c.args.q (omega arith) in denied c.args.d c.args.q c.requires (λ n. omega arith)

pub returns : goal.returns
returns c =
    let m = halves c.args.q (omega arith) in
    ((λ e. near_only 53 (c.args.d * 2 ^ 52) c.args.q (omega arith) (omega arith, omega arith)), (λ p e. refl))
