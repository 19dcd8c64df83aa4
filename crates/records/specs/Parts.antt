-- Load (crates/filter/specs/Load.antt) in two parts, as the code takes it: the form of a record, and then what stands in it. Definitions only.
use Rattle.std.specs.Prelude.{ℕ, Bool, true, false, List, leb, length}
use Rattle.std.specs.Float.{Format}
use Rattle.floats.specs.declared.Refusal.TheVariants.{Short as SHORT}
use Rattle.floats.specs.Refusal.{Outcome, accepted, unless, onward, nothing}
use Rattle.floats.specs.Search.{Input, searched}
use Rattle.filter.specs.Types.{Filter}
use Rattle.filter.specs.Asked.{Param, within, long, fit, every, in_order}
use Rattle.filter.specs.Load.{filter_in, is_record, load_asks}

-- 2, 1, 2, 12
unfoldable pub form_of : List ℕ → Outcome Bool
unfolding in_order
form_of b = unless (leb 3 (length b)) SHORT (in_order true (every within (load_asks b).sizes) (every long (load_asks b).lent) (is_record b) false false nothing true true nothing)

-- what the search of the inputs comes to, then 6
unfoldable pub judged : Format → List Input → List Param → Outcome Bool
unfolding in_order searched
judged f inputs params = in_order true true true true false false (searched inputs) true (every (fit f) params) nothing

unfoldable pub contents_of : Format → List ℕ → Outcome Filter
unfolding judged
contents_of f b = onward (judged f (load_asks b).inputs (load_asks b).params) (λ (t : Bool). accepted (filter_in b))
