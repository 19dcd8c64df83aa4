-- LOAD (document 02, A8): what a list of bytes reads as, a filter with a sheet of its own, stale; refused, the empty filter. Definitions only.
use Rattle.std.specs.Prelude.{ℕ, ◌+◌, ◌*◌, Bool, true, false, ◌&&◌, List, [], ◌∷◌, ◌++◌, leb, eqb, length, take, drop, get_or, replicate, Float}
use Rattle.std.specs.Float.{Format}
use Rattle.floats.specs.declared.Slice.TheVariants.{Lone}
use Rattle.floats.specs.declared.Refusal.TheVariants.{Short as SHORT}
use Rattle.floats.specs.Refusal.{Outcome, accepted, unless}
use Rattle.floats.specs.Search.{Input, input}
use Rattle.floats.specs.Numbers.{zeros}
use Rattle.floats.specs.Fronts.{over}
use Rattle.angles.specs.Kinds.{plain, half_of}
use Rattle.angles.specs.Kinds.{Kind}
use Rattle.pieces.specs.Bytes.{number_at, kind_at, formed, read_each, all_true}
use Rattle.filter.specs.Types.{Filter}
use Rattle.filter.specs.Types.{Answer}
use Rattle.filter.specs.Asked.{by_params, Asks, guarded}
use Rattle.filter.specs.Filters.{sheet, filter}
use Rattle.filter.specs.Records.{numbers, record_length}
use Rattle.filter.specs.Calls.{lend_bytes, as_kinds}
use Rattle.filter.specs.Steps.{params_of}
use Rattle.filter.specs.New.{fresh_track, answer_of, from, inputs_for}

-- n states with the numbers v, which are x, P, Q, alpha, beta and kappa, and these kinds, the others plain; else as New leaves a filter
abbrev pub filter_of : ℕ → List Float → List Kind → Filter
filter_of n v kinds =
    let p = drop n v in
    let q = drop (n * n) p in
    filter (sheet n (over (take (n * n) q) (zeros 64)) (params_of (drop (n * n) q)) (over kinds (replicate 8 plain)))
    (fresh_track (over (take n v) (zeros 8)) (over (take (n * n) p) (zeros 64)))

-- a half-turn is a lone value by itself, at place 0
abbrev pub turn_inputs : List Kind → List Input
turn_inputs [] = []
turn_inputs (k ∷ ks) = input Lone (half_of k ∷ []) ++ turn_inputs ks

module _ (b : List ℕ) where
  -- ---- what stands there: n after the two bytes of the mark, eight bytes a number, then nine bytes a kind

  abbrev pub states_in : ℕ
  states_in = get_or b 2 0

  abbrev pub numbers_in : List Float
  numbers_in = read_each 8 number_at (numbers states_in) (drop 3 b)

  -- of each kind, what its bytes are read as
  abbrev pub each_kind : {A : Type 0} → (List ℕ → A) → List A
  each_kind by = read_each 9 by states_in (drop (3 + 8 * numbers states_in) b)

  abbrev pub filter_in : Filter
  filter_in = filter_of states_in numbers_in (each_kind kind_at)

  -- 12: wrong mark (57 50 hex), kind byte not 0 or 1, or plain with h bytes not zero
  abbrev pub is_record : Bool
  is_record = eqb (get_or b 0 0) 87 && (eqb (get_or b 1 0) 80 && all_true (each_kind formed))

  -- ---- what is asked: 1 to 8 states, as many bytes as their record has, its form; then numbers and kinds as for a new filter

  abbrev pub load_asks : Asks
  load_asks =
      let s = filter_in in
      let n = states_in in
      record {
        fits = true;
        sizes = record { value = n; from = 1; to = 8 } ∷ [];
        lent = lend_bytes b (record_length n);
        formed = is_record;
        stale = false;
        fresh = false;
        inputs = inputs_for n (from s.track.x s.track.p ∷ []) s.sheet.q s.sheet.params ++ turn_inputs (each_kind kind_at);
        plain = [];
        params = by_params n s.sheet.params ∷ as_kinds (each_kind kind_at);
      }

module _ (f : Format) (b : List ℕ) where
  -- under three bytes there is no n to ask for
  unfoldable pub load_of : Outcome Filter
  unfolding guarded read_each
  load_of = unless (leb 3 (length b)) SHORT (guarded f (load_asks b) (accepted (filter_in b)))

  abbrev pub load_answer : Answer
  load_answer = answer_of load_of
