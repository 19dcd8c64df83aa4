-- What a call asks before its steps, a field for each row of the table of refusals, and the order in which the rows are tried. Definitions only.
use Rattle.std.specs.Prelude.{ℕ, Bool, not, ◌&&◌, List, leb, length, Float}
use Rattle.std.specs.Float.{Format}
use Rattle.floats.specs.declared.Verdict.{Verdict}
use Rattle.floats.specs.declared.Refusal.TheVariants.{Size as SIZE, Short as SHORT, Stage as STAGE, Record as RECORD, Stale as STALE, Fresh as FRESH, Kind as KIND, Param as PARAM}
use Rattle.floats.specs.Refusal.{Outcome, refusal, unless, onward, nothing}
use Rattle.floats.specs.Search.{Input, searched}
pub use Rattle.floats.specs.Tests.{every}
use Rattle.angles.specs.Kinds.{is_plain, passes}
use Rattle.angles.specs.Kinds.{Kind}
use Rattle.sigma.specs.Weights.{weights_pass}
use Rattle.sigma.specs.Weights.{Params}

-- 1: a number that has to lie in a range
pub record Size : Type 0 where
  pub value : ℕ
  pub from : ℕ
  pub to : ℕ

-- 2: a lent slice, of numbers or of bytes, and how many of them the call needs
pub data Lent : Type 0 where
  of_numbers : List Float → ℕ → Lent
  of_bytes : List ℕ → ℕ → Lent

-- 6: what has to pass it, the parameters of n states or a kind
pub data Param : Type 0 where
  by_params : ℕ → Params → Param
  by_kind : Kind → Param

pub record Asks : Type 0 where
  -- 3: whether the call fits what is open
  pub fits : Bool
  pub sizes : List Size
  pub lent : List Lent
  -- 12: whether lent bytes that have to be a record have its form
  pub formed : Bool
  -- 4: whether points are read while stale
  pub stale : Bool
  -- 11: whether a filter is saved while not stale
  pub fresh : Bool
  -- 51 to 56: the slices whose numbers come in, in the order of the search
  pub inputs : List Input
  -- 10: the kinds that have to be plain
  pub plain : List Kind
  pub params : List Param

-- ---- the tests

unfoldable pub in_range : ℕ → ℕ → ℕ → Bool
in_range from to n = leb from n && leb n to

abbrev pub within : Size → Bool
within s = in_range s.from s.to s.value

abbrev pub long : Lent → Bool
long (of_numbers slice needs) = leb needs (length slice)
long (of_bytes slice needs) = leb needs (length slice)

abbrev pub passing : Format → Kind → Bool
passing f k = passes f k

abbrev pub fit : Format → Param → Bool
fit f (by_params n p) = weights_pass f n p
fit f (by_kind k) = passing f k

-- ---- the order: 3, 1, 2, 12, 4, 11, what the search comes to (51 to 56), 10, 6, then what the steps o come to (7, 8 and 9 as they meet them, and 56 for an N without a root)

unfoldable pub in_order : {A : Type 0} → Bool → Bool → Bool → Bool → Bool → Bool → Outcome Bool → Bool → Bool → Outcome A → Outcome A
in_order fits sized long formed stale fresh found plain pass o =
    unless fits STAGE
    (unless sized SIZE
    (unless long SHORT
    (unless formed RECORD
    (unless (not stale) STALE
    (unless (not fresh) FRESH
    (onward found (λ (t : Bool).
    unless plain KIND
    (unless pass PARAM
    o))))))))

unfoldable pub guarded : {A : Type 0} → Format → Asks → Outcome A → Outcome A
unfolding in_order searched
guarded f a o = in_order a.fits (every within a.sizes) (every long a.lent) a.formed a.stale a.fresh (searched a.inputs) (every is_plain a.plain) (every (fit f) a.params) o

-- what these tests say by themselves, 0 where all pass
unfoldable pub first_refusal : Format → Asks → Verdict
unfolding guarded
first_refusal f a = refusal (guarded f a nothing)
