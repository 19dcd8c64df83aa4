-- 10 and a bad half-turn in words: a flat close gives 10 just where what it is lent would do and one of the first n kinds is a turn; a weighted one 56 at i just where the same would do and of its first m kinds that at i is the first turn by a number that isn't finite. Assumes nothing.
use Prim.Native.Nat.{ℕ, ◌*◌, ◌<◌, ◌≤◌}
use mathlib.Core.Path.{◌≡◌, refl, ap, subst}
use mathlib.Core.Bool.{true, false}
use mathlib.Core.List.{List, [], ◌∷◌, ◌++◌}
use mathlib.Core.Logic.{◌↔◌, ⊎_elim}
use native.Mathlib.Omega.{arith}
use borrow.Author.Tests.{leb-true, le-leb}
use lib.ListN.{take}
use lib.Ieee.{Float, Format}
use Rattle.floats.specs.declared.Slice.{Slice}
use Rattle.floats.specs.declared.Slice.TheVariants.{Noise, Points, Measurement, Lone}
use Rattle.floats.specs.declared.Refusal.TheVariants.{Number as NUMBER, Kind as KIND}
use Rattle.floats.specs.Refusal.{slice_number, verdict}
use Rattle.floats.specs.Search.{Input, input}
use Rattle.floats.specs.Numbers.{all_finite}
use Rattle.angles.specs.Kinds.{Kind}
use Rattle.matrix.specs.Results.{Result}
use Rattle.matrix.proofs.Flat.{split}
use Rattle.filter.specs.Types.{Filter}
use Rattle.filter.specs.Asked.{Param, Asks, in_range, within, long}
use Rattle.filter.specs.Filters.{is_correcting, seen}
use Rattle.filter.specs.Calls.{CloseCall, Call, closing, close_correction, close_correction_flat, sized, needing, needing_plain, observed_numbers, lent_measured, asking, asks}
use Rattle.filter.specs.Steps.{step}
use Rattle.demands.specs.Rows.{Some, OutOfRange, Shorter, FirstIn, FirstBad, found, further, FirstBadTurn, IsTurn, IsOpen, Measurable, Cause, stage, size, short, form, stale, fresh, kind, param, met, Applies, rank}
use Rattle.demands.specs.Rows as Row
use Rattle.demands.proofs.Rows.{two_ways, itself, passes_where, some, ranged, lent_long, all_finite_lem}
use Rattle.demands.proofs.Exactly.{of_search, exactly}
use Rattle.demands.proofs.Passed.{both_true, pass}
use Rattle.demands.proofs.Places.{no_some, no_bad, finite_searched, none_finite, turn_at}
use Rattle.demands.proofs.Table.{Asked, by_row}
use Rattle.demands.proofs.Pivots.{number_exactly}
use Rattle.demands.proofs.Fine.{in_range_lem}

pub in_range_is : (from to n : ℕ) → (from ≤ n) × (n ≤ to) → in_range from to n ≡ true
unfolding in_range
in_range_is from to n h = both_true (le-leb from n h.0) (le-leb n to h.1)

-- a flat close brings in no half-turns
none_at_all : all_finite [] ≡ true
unfolding all_finite
none_at_all = refl

-- a close opens nothing
not_open : {c : CloseCall} → IsOpen (closing c) → ⊥
not_open w = elim w [ ]

-- a number of slice s is the first bad one only once the slices of another name before it are finite
past : {s : Slice} {i : ℕ} {x : Input} {l : List Input} → (x.name ≡ s → ⊥) → FirstBad s i (x ∷ l) → (all_finite x.numbers ≡ true) × FirstBad s i l
past n (found w) = absurd (n refl)
past {x = x} n (further a w) = (passes_where (all_finite_lem x.numbers) a, w)

at_last : {s : Slice} {i : ℕ} {x : Input} → FirstBad s i (x ∷ []) → FirstIn x.numbers i
at_last (found w) = w
at_last (further a w) = absurd (elim w [ ])

-- half-turns are searched last
last_searched : {r observed z turns : List Float} {i : ℕ} → FirstBad Lone i (input Noise r ++ (input Points observed ++ (input Measurement z ++ input Lone turns)))
    → (all_finite r ≡ true) × (all_finite observed ≡ true) × (all_finite z ≡ true) × FirstIn turns i
last_searched w =
    let a = past (λ e. omega (arith, ap slice_number e)) w in
    let b = past (λ e. omega (arith, ap slice_number e)) a.1 in
    let c = past (λ e. omega (arith, ap slice_number e)) b.1 in
    (a.0, b.0, c.0, at_last c.1)

module _ (s : Filter) (m : ℕ) (z r observed : List Float) where
  -- what either close asks, with what each searches, wants plain and wants to pass 6
  abbrev lending : List Input → List Kind → List Param → Asks
  lending inputs plain params = asking (is_correcting s.track.stage) s.sheet.n (needing_plain plain (needing (sized m 1 4) (lent_measured s.sheet.n m z r observed) false inputs params))

  module _ (f : Format) (inputs : List Input) (plain : List Kind) (params : List Param) (vs : List Result) where
    abbrev a : Asks
    a = lending inputs plain params

    measurable : ((d : Cause) → rank d < 6 → Applies f a vs d → ⊥) → all_finite (take (m * m) r) ≡ true → all_finite (take (observed_numbers s.sheet.n m) observed) ≡ true → all_finite (take m z) ≡ true → Measurable s m z r observed
    measurable w fr fo fz =
        let sizes = pass within a.sizes (passes_where (some within OutOfRange ranged a.sizes) (w size (omega arith))) in
        let lent = pass long a.lent (passes_where (some long Shorter lent_long a.lent) (w short (omega arith))) in record {
          correcting = passes_where (itself a.fits) (w stage (omega arith));
          states = in_range_lem 1 8 s.sheet.n sizes.0;
          measurements = in_range_lem 1 4 m sizes.1.0;
          long = (leb-true _ _ lent.0, leb-true _ _ lent.1.0, leb-true _ _ lent.1.1.0);
          finite_z = fz;
          finite_r = fr;
          finite_observed = fo;
        }

    none_before : Measurable s m z r observed → (d : Cause) → rank d < 6 → Applies f a vs d → ⊥
    none_before h stage l x = two_ways h.correcting x
    none_before h size l x = (some within OutOfRange ranged a.sizes).passes (both_true (in_range_is 1 8 s.sheet.n h.states) (both_true (in_range_is 1 4 m h.measurements) refl)) x
    none_before h short l x = (some long Shorter lent_long a.lent).passes (both_true (le-leb _ _ h.long.0) (both_true (le-leb _ _ h.long.1) (both_true (le-leb _ _ h.long.2) refl))) x
    none_before h form l x = two_ways refl x
    none_before h stale l x = two_ways x refl
    none_before h fresh l x = two_ways x refl
    none_before h (Row.number t i) l x = absurd (omega arith)
    none_before h kind l x = absurd (omega arith)
    none_before h param l x = absurd (omega arith)
    none_before h (met q) l x = absurd (omega arith)

module _ (f : Format) (s : Filter) (m : ℕ) (z r : List Float) where
  module _ (observed : List Float) where
    abbrev averaging : Call
    averaging = closing (close_correction_flat m z r observed)

    pub turned_away_exactly : ((step f s averaging).reply.refusal ≡ verdict KIND) ↔ (Measurable s m z r observed × Some IsTurn (take s.sheet.n s.sheet.kinds))
    turned_away_exactly = (
      λ e.
          let w = by_row f s averaging KIND (λ b. b) e in
          let inputs = none_finite (asks (seen s) averaging).inputs (λ t i. w.1 (Row.number t i) (omega arith)) in
          (measurable s m z r observed f _ _ _ _ (λ d l. w.1 d (omega arith)) inputs.0 inputs.1.0 inputs.1.1.0, w.0),
      λ h. (exactly f s averaging KIND).1 (record { cause = kind; gives_it = refl; applies = h.1; no_earlier = before h.0 }),
    )
      where
        before : Measurable s m z r observed → (d : Cause) → rank d < rank kind → Asked f s averaging d → ⊥
        before h d l x =
            ⊎_elim
            (λ g. none_before s m z r observed f _ _ _ _ h d g x)
            (λ g. let w = of_search d (omega arith) in no_bad (asks (seen s) averaging).inputs (finite_searched (asks (seen s) averaging).inputs (h.finite_r, (h.finite_observed, (h.finite_z, (none_at_all, tt))))) (subst (Asked f s averaging) w.2 x))
            (split (rank d) 6)

  module _ (kinds : List Kind) (observed : List Float) where
    abbrev weighing : Call
    weighing = closing (close_correction m z r kinds observed)

    pub half_turn_exactly : (i : ℕ) → ((step f s weighing).reply.refusal ≡ verdict (NUMBER Lone i)) ↔ (Measurable s m z r observed × FirstBadTurn (take m kinds) i)
    half_turn_exactly i =
        let e = number_exactly f s weighing not_open Lone i in (
          λ x. let w = e.0 x in let q = last_searched w.1 in (measurable s m z r observed f _ _ _ _ w.0 q.0 q.1 q.2, (turn_at (take m kinds) i).0 q.3),
          λ h. e.1 (none_before s m z r observed f _ _ _ _ h.0, further (no_some _ h.0.finite_r) (further (no_some _ h.0.finite_observed) (further (no_some _ h.0.finite_z) (found ((turn_at (take m kinds) i).1 h.1))))),
        )
