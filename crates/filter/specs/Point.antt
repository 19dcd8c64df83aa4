-- Point k of a lent list: numbers kn up to kn+n of the list itself; and the part of any list from a place up to another. Definitions only.
use Rattle.std.specs.Prelude.{ℕ, ◌+◌, ◌-◌, ◌*◌, Bool, ◌&&◌, true, false, length, take, drop, eqb, leb, Float}
use Rattle.std.proofs.Math.Bool.{cond}
use mathlib.Core.List.{List, []}
use Rattle.std.specs.Float.{Format}
use Rattle.floats.specs.declared.Verdict.{Verdict}
use Rattle.floats.specs.Refusal.{Outcome, accepted, refusal, or}
use Rattle.floats.specs.Numbers.{bytes}
use Rattle.sigma.specs.Draw.{point_numbers}
use Rattle.filter.specs.Asked.{Asks, guarded}
use Rattle.filter.specs.Calls.{sized, lend, line}

module _ {A : Type 0} (l : List A) (a e : ℕ) where
  -- whether the list has places a up to e
  abbrev pub has_part : Bool
  has_part = leb a e && leb e (length l)

  -- what stands there; where the list hasn't those places, nothing
  abbrev pub part_of : List A
  part_of = cond has_part (take (e - a) (drop a l)) []

  -- where it begins: a block, and an offset in bytes, those of what stands before it; where the list hasn't those places, where the list begins
  abbrev pub part_start : Format → ℕ × ℕ → ℕ × ℕ
  part_start f at = (at.0, cond has_part a 0 * bytes f + at.1)

module _ (f : Format) (l : List Float) (n k : ℕ) where
  -- it needs the whole n(2n+1) numbers and doesn't judge them
  abbrev pub point_asks : Asks
  point_asks = line true n (sized k 0 (n + n)) (lend l (point_numbers n)) false [] []

  unfoldable pub point_at : Outcome (List Float)
  unfolding guarded
  point_at = guarded f point_asks (accepted (take n (drop (k * n) l)))

  unfoldable pub point_refusal : Verdict
  unfolding point_at
  point_refusal = refusal point_at

  -- a refusal hands back an empty part
  unfoldable pub point_of : List Float
  unfolding point_at
  point_of = or [] point_at

  -- where the part begins: a block, and an offset in bytes, those of the numbers before it; of a refusal, where the list begins
  unfoldable pub point_start : ℕ × ℕ → ℕ × ℕ
  unfolding point_refusal
  point_start at = (at.0, cond (eqb point_refusal.number 0) (k * n * bytes f + at.1) (0 * bytes f + at.1))
