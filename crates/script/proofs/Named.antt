-- A table of names and their calls, searched for a token. Assumes nothing.
use mathlib.Core.Path.{◌≡◌, refl, sym, ap, ◌∙◌}
use mathlib.Core.Bool.{Bool, true, false, cond}
use mathlib.Core.List.{List, [], ◌∷◌, map}
use Prim.Native.Nat.{ℕ}
use denote.Ref.{Bor}
use Rattle.std.specs.Prelude.{Option, None, Some}
use Rattle.std.specs.List.{find}
use Rattle.std.specs.Option.{option_map}
use Rattle.std.specs.Str.{bytes_eq}
use Rattle.script.specs.Text.{same_bytes}
use Rattle.script.specs.Names.{Entry, named}
use Rattle.script.specs.declared.names.Name.{Name}
use Rattle.script.specs.declared.names.Name.TheVariants.{Unknown}
use Rattle.script.proofs.Same.{same_is}

abbrev pub Row : Type 0
Row = Bor (List ℕ) × Name

-- a row of the table, as the definition has it
abbrev pub entry : Row → Entry
entry r = record { word = r.0.now; call = r.1 }

-- the call of the row that was found
abbrev pub call_in : Option Row → Name
call_in None = Unknown
call_in (Some r) = r.1

pub call_found : (t : List ℕ) (l : List Row) → call_in (find (λ r. bytes_eq t r.0.now) l) ≡ named (map entry l) t
unfolding named
call_found t [] = refl
call_found t (r ∷ l) = rw (same_is t r.0.now) (either (same_bytes t r.0.now) (find (λ r. bytes_eq t r.0.now) l) (call_found t l))
  where
    either : (b : Bool) (o : Option Row) {n : Name} → call_in o ≡ n → call_in (cond b (Some r) o) ≡ cond b r.1 n
    either true o e = refl
    either false o e = e

-- what the search came to, in a table that the definition has
pub told : (t : List ℕ) (all : List Row) {table : List Entry} {r o : Option (Bor Row)}
    → option_map (λ x. x.now) r ≡ find (λ r. bytes_eq t r.0.now) all → map entry all ≡ table → r ≡ o
    → call_in (option_map (λ x. x.now) o) ≡ named table t
told t all {table} {r} {o} f e g =
    ap (λ (s : Option (Bor Row)). call_in (option_map (λ x. x.now) s)) (sym g) ∙ ap (λ (s : Option Row). call_in s) f ∙ call_found t all ∙ ap (λ (l : List Entry). named l t) e
