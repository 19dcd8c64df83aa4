-- What `square_root` answers, over the format: a root or a refusal, and what document 01 asks of an outcome. Definitions only.
use Rattle.std.specs.Prelude.{◌≡◌, true, false, zero, suc, Float}
use Rattle.std.specs.Float.{nan, inf, fin, Format}
use Rattle.floats.specs.Refusal.{bad_lone, Outcome, refused, accepted, unless}
use Rattle.root.specs.Definition.{root_of, rooted}
use Rattle.root.specs.Nearest.{Nearest}

-- either a root or refusal 56
abbrev pub root_outcome : Format → Float → Outcome Float
root_outcome f x = unless (rooted x) bad_lone (accepted (root_of f x))

-- What document 01 asks of the outcome o for an x that the format holds, with no root worked out: a NaN, an infinity and what is below zero are refused, a zero of either sign is its own root,
-- and above zero no value of the format is nearer to the exact root than the answer.
abbrev pub Asked : Format → Float → Outcome Float → Type 0
Asked f nan o = o ≡ refused bad_lone
Asked f (inf s) o = o ≡ refused bad_lone
Asked f (fin s zero e) o = o ≡ accepted (fin s zero e)
Asked f (fin true (suc m) e) o = o ≡ refused bad_lone
Asked f (fin false (suc m) e) o = (r : Float) × (o ≡ accepted r) × Nearest f (fin false (suc m) e) r
