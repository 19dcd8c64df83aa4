-- A measurement as it is lent to a close of a correction (specs/Measurement.antt): the number that its tests give, and what is taken in where that is 0. Assumes nothing.
use Prim.Native.Nat.{ℕ, ◌≤◌, ◌*◌}
use mathlib.Core.Path.{◌≡◌, refl, sym, ap, ap₂, ◌∙◌}
use mathlib.Core.Bool.{Bool, true, false, ◌&&◌, cond}
use mathlib.Core.List.{List, ◌++◌}
use native.Mathlib.Omega.{arith}
use borrow.Author.Tests.{leb-true}
use lib.Dec.{leb}
use lib.ListN.{length, take}
use lib.Ieee.{Float}
use Rattle.floats.specs.declared.Verdict.{Verdict}
use Rattle.floats.specs.Refusal.{earlier, Outcome, accepted, refusal, nothing}
use Rattle.floats.proofs.Refusals.{number_of}
use Rattle.floats.specs.declared.Slice.TheVariants.{Noise, Points, Measurement, Lone}
use Rattle.floats.specs.Search.{input, searched}
use Rattle.floats.specs.Numbers.{zeros}
use Rattle.floats.specs.Fronts.{front}
use Rattle.floats.proofs.Search.{Found, found_next, found_nothing}
use Rattle.filter.specs.Asked.{in_range, long, every, in_order}
use Rattle.filter.specs.Calls.{sized, lend, observed_numbers, inputs_measured, measurement}
use Rattle.filter.specs.declared.measurement.Intake.{Intake as IntakeOf}
use Rattle.filter.specs.Types.{Intake}
use Rattle.filter.specs.Measurement.{Lending, sizes_do, long_enough, searched_in, lent_in_order, taken_in, unmeasured, measured}
use Rattle.filter.proofs.Sizes.{and_left, and_right, and_true, within_8, within_both, square_le, numbers_le}
use Rattle.filter.proofs.Order.{found_in_turn, same_number, all_pass, one_fails, alike}
use Rattle.filter.proofs.Lines.{states_le, measured_le}

module _ (l : Lending) where
  abbrev whole : Intake
  whole = measurement l.n l.m l.z l.r l.observed

  -- the number, whatever is taken in
  lent_number : refusal (taken_in l) ≡ refusal (lent_in_order l nothing)
  lent_number = alike refusal refusal whole true refl (λ q. refl) l.fits (sizes_do l) (long_enough l) true false false (searched_in l) l.plain l.passing

  lent_told : (measured (taken_in l)).refusal ≡ refusal (taken_in l)
  lent_told = alike (λ (o : Outcome Intake). (measured o).refusal) refusal whole whole refl (λ q. refl) l.fits (sizes_do l) (long_enough l) true false false (searched_in l) l.plain l.passing

  -- the tests as the code makes them: past the sizes they need only be right where those pass
  pub lent_tested : {size long : Bool} (o : Outcome Bool) {found q : Verdict} → q ≡ earlier (refusal (in_order l.fits size long true false false nothing true true nothing)) (earlier found (refusal (in_order true true true true false false nothing l.plain l.passing nothing))) → found ≡ refusal o → size ≡ sizes_do l → (sizes_do l ≡ true → long ≡ long_enough l) → (sizes_do l ≡ true → o ≡ searched_in l) → q ≡ refusal (taken_in l)
  lent_tested {size} {long} o e d s t u =
      found_in_turn l.fits size long true false false o l.plain l.passing e d ∙ same_number l.fits size long true false false o l.plain l.passing l.fits (sizes_do l) (long_enough l) true false false (searched_in l) l.plain l.passing refl s t refl refl refl u refl (λ h. refl) ∙ sym lent_number

  pub lent_refused : ((refusal (taken_in l)).number ≡ 0 → ⊥) → measured (taken_in l) ≡ unmeasured (refusal (taken_in l))
  lent_refused h =
      let q = one_fails l.fits (sizes_do l) (long_enough l) true false false (searched_in l) l.plain l.passing (accepted whole) (λ e. h (number_of lent_number ∙ e)) in
      ap measured q.1 ∙ ap (λ (o : Outcome Intake). unmeasured (refusal o)) (sym q.1)

  module _ (h : (refusal (taken_in l)).number ≡ 0) where
    lent_passed : (l.fits ≡ true) × (sizes_do l ≡ true) × (long_enough l ≡ true) × (true ≡ true) × (false ≡ false) × (false ≡ false) × ((refusal (searched_in l)).number ≡ 0) × (l.plain ≡ true) × (l.passing ≡ true)
    lent_passed = all_pass l.fits (sizes_do l) (long_enough l) true false false (searched_in l) l.plain l.passing (sym (number_of lent_number) ∙ h)

    pub lent_in : taken_in l ≡ accepted whole
    unfolding in_order
    lent_in = let t = lent_passed in rw (t.0, t.1, t.2, found_nothing (inputs_measured l.n l.m l.z l.r l.observed l.turns) t.6, t.7, t.8)

    -- there are 1 to 8 states and 1 to 4 measurements, and the slices are long enough
    pub lent_sizes : (l.n ≤ 8) × (l.m ≤ 4)
    lent_sizes = let s = lent_passed.1 in (states_le l.n (sized l.m 1 4) s, measured_le l.n l.m s)

    pub lent_long : (l.m ≤ length l.z) × (l.m * l.m ≤ length l.r) × (observed_numbers l.n l.m ≤ length l.observed)
    lent_long =
        let t = lent_passed.2 in
        let k = and_right (leb l.m (length l.z)) _ t in
        (leb-true _ _ (and_left (leb l.m (length l.z)) _ t), leb-true _ _ (and_left (leb (l.m * l.m) (length l.r)) _ k), leb-true _ _ (and_left (leb (observed_numbers l.n l.m) (length l.observed)) true (and_right (leb (l.m * l.m) (length l.r)) _ k)))

abbrev pub lent : Bool → ℕ → ℕ → List Float → List Float → List Float → List Float → Bool → Bool → Lending
lent fits n m z r observed turns plain passing = record { fits = fits; n = n; m = m; z = z; r = r; observed = observed; turns = turns; plain = plain; passing = passing }

-- ---- as the code takes it in: mm is the count of R's numbers, k of those of the observed points, and the search goes on from slice to slice

module _ (l : Lending) {mm k : ℕ} (square : mm ≡ cond (leb l.m 8) (l.m * l.m) 0) (numbers : k ≡ cond (leb l.n 8 && leb l.m 8) (observed_numbers l.n l.m) 0) where
  squared : l.m ≤ 4 → mm ≡ l.m * l.m
  squared h = square ∙ within_8 l.m _ (omega arith)

  counted : l.n ≤ 8 → l.m ≤ 4 → k ≡ observed_numbers l.n l.m
  counted g h = numbers ∙ within_both l.n l.m _ g (omega arith)

  pub lent_by_tests : {size enough : Bool} {in-noise in-points in-measurement found q : Verdict}
      → size ≡ (in_range 1 8 l.n && in_range 1 4 l.m)
      → enough ≡ every long (lend l.z l.m ++ (lend l.r mm ++ lend l.observed k))
      → in-noise ≡ refusal (searched (input Noise (take mm l.r)))
      → in-points ≡ earlier in-noise (refusal (searched (input Points (take k l.observed))))
      → in-measurement ≡ earlier in-points (refusal (searched (input Measurement (take l.m l.z))))
      → found ≡ earlier in-measurement (refusal (searched (input Lone l.turns)))
      → q ≡ earlier (refusal (in_order l.fits size enough true false false nothing true true nothing)) (earlier found (refusal (in_order true true true true false false nothing l.plain l.passing nothing)))
      → q ≡ refusal (taken_in l)
  lent_by_tests s e h1 h2 h3 h4 d =
      let first : Found _ _ = record { is = h1 } in
      let sizes = sized l.m 1 4 in
      lent_tested l _ d (found_next (found_next (found_next first Points _ h2) Measurement _ h3) Lone _ h4).is
      (s ∙ ap (λ (x : Bool). in_range 1 8 l.n && x) (sym (and_true _)))
      (λ h. e ∙ ap₂ (λ (x y : ℕ). every long (lend l.z l.m ++ (lend l.r x ++ lend l.observed y))) (squared (measured_le l.n l.m h)) (counted (states_le l.n sizes h) (measured_le l.n l.m h)))
      (λ h. ap₂ (λ (x y : ℕ). searched (input Noise (take x l.r) ++ (input Points (take y l.observed) ++ (input Measurement (take l.m l.z) ++ input Lone l.turns)))) (squared (measured_le l.n l.m h)) (counted (states_le l.n sizes h) (measured_le l.n l.m h)))

  module _ {q : Verdict} (told : q ≡ refusal (taken_in l)) where
    pub lent_turned_away : (q.number ≡ 0 → ⊥) → unmeasured q ≡ measured (taken_in l)
    lent_turned_away h = ap unmeasured told ∙ sym (lent_refused l (λ e. h (number_of told ∙ e)))

    module _ (h : q.number ≡ 0) where
      -- what is counted is there, and there is room for it
      pub lent_counts : (l.m ≤ length l.z) × (l.m ≤ 8) × (mm ≤ length l.r) × (mm ≤ 64) × (k ≤ length l.observed) × (k ≤ 136)
      lent_counts =
          let z = sym (number_of told) ∙ h in
          let s = lent_sizes l z in
          let e = lent_long l z in
          let m8 : l.m ≤ 8 = omega (arith, s.1) in
          (e.0, m8, omega (arith, squared s.1, e.1), omega (arith, squared s.1, square_le l.m m8), omega (arith, counted s.0 s.1, e.2), omega (arith, counted s.0 s.1, numbers_le l.n l.m s.0 m8))

      pub lent_taken : {z r o : List Float} → z ≡ front l.m l.z (zeros 8) → r ≡ front mm l.r (zeros 64) → o ≡ front k l.observed (zeros 136) → record { refusal = q; z = z; r = r; observed = o } ≡ measured (taken_in l)
      lent_taken e r o =
          let z = sym (number_of told) ∙ h in
          let s = lent_sizes l z in
          let v = told ∙ ap refusal (lent_in l z) in
          let rr = r ∙ ap (λ (j : ℕ). front j l.r (zeros 64)) (squared s.1) in
          let oo = o ∙ ap (λ (j : ℕ). front j l.observed (zeros 136)) (counted s.0 s.1) in
          rw (v, e, rr, oo) (sym (ap measured (lent_in l z)))

-- ---- as a close has it: v is what was taken in

pub record Lent (l : Lending) (v : Intake) : Type 0 where
  pub is : v ≡ measured (taken_in l)

module _ {l : Lending} {v : Intake} (t : Lent l v) where
  told_is : v.refusal ≡ refusal (taken_in l)
  told_is = ap (λ (u : Intake). u.refusal) t.is ∙ lent_told l

  pub told_in_order : v.refusal ≡ refusal (lent_in_order l nothing)
  told_in_order = told_is ∙ lent_number l

  module _ (h : v.refusal.number ≡ 0) where
    pub sizes_in : (l.n ≤ 8) × (l.m ≤ 4)
    sizes_in = lent_sizes l (sym (number_of told_is) ∙ h)

    pub taken_in_lem : v ≡ measurement l.n l.m l.z l.r l.observed
    taken_in_lem = t.is ∙ ap measured (lent_in l (sym (number_of told_is) ∙ h))

-- ---- what the code hands back, in the terms of its floats

module _ {A : Type 0} {floats : List A → List Float} {seen : (F : Type 0 → Type 0) → F A → F Float} (law : (l : List A) → floats l ≡ seen List l) (same : (P : (B : Type 0) → ((F : Type 0 → Type 0) → F B → F Float) → Type 0) → P Float (λ F x. x) → P A seen) where
  pub seen_intake : (v : Verdict) (z r o : List A) → seen IntakeOf (record { refusal = v; z = z; r = r; observed = o }) ≡ record { refusal = v; z = floats z; r = floats r; observed = floats o }
  seen_intake v z r o =
      rw (law z, law r, law o)
      (same (λ B s. (z r o : List B) → s IntakeOf (record { refusal = v; z = z; r = r; observed = o }) ≡ record { refusal = v; z = s List z; r = s List r; observed = s List o }) (λ z r o. refl) z r o)
