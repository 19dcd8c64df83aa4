-- A New in parts (specs/New.antt): it tells the sooner of what its parts tell. Assumes nothing.
use Prim.Native.Nat.{ℕ, ◌<◌, ◌≤◌, ◌*◌}
use mathlib.Core.Path.{◌≡◌, refl, sym, ap, ap₂, ◌∙◌}
use mathlib.Core.Bool.{Bool, true, false, ◌&&◌, cond}
use mathlib.Core.List.{List, [], ◌∷◌, ◌++◌}
use native.Mathlib.Omega.{arith}
use borrow.Author.Tests.{eqb-true, eqb-false, ne_eqb, le-leb, lt-leb}
use lib.ListN.{length, take}
use lib.Dec.{eqb, leb}
use lib.Ieee.{Float, Format}
use Rattle.floats.specs.declared.Slice.TheVariants.{State, Covariance, Noise, Lone}
use Rattle.floats.specs.declared.Verdict.{Verdict}
use Rattle.floats.specs.declared.Refusal.{Refusal}
use Rattle.floats.specs.Refusal.{earlier, Outcome, refused, accepted, refusal, or, onward, nothing}
use Rattle.floats.specs.Search.{Input, input, searched}
use Rattle.floats.specs.Numbers.{zeros}
use Rattle.floats.specs.Fronts.{front}
use Rattle.floats.proofs.Refusals.{number, number_of, earlier_refused}
use Rattle.floats.proofs.Search.{searched_append, found_above, Found, found_next}
use Rattle.sigma.specs.Weights.{Params, weights_pass}
use Rattle.filter.specs.declared.Sheet.{Sheet}
use Rattle.filter.specs.declared.Track.{Track}
use Rattle.filter.specs.declared.Filter.{Filter}
use Rattle.filter.specs.declared.Answer.{Answer}
use Rattle.filter.specs.Filters.{filter}
use Rattle.filter.specs.Asked.{Lent, Param, by_params, Asks, in_range, within, long, fit, every, in_order, guarded, first_refusal}
use Rattle.filter.specs.Calls.{values_of, line}
use Rattle.filter.specs.New.{fresh_sheet, fresh_track, empty_sheet, empty_track, empty, refused_answer, Start, from, lent_at, lent_for, inputs_at, inputs_for, new_asks, start_asks, sheet_from, track_from, new_sheet_of, new_sheet, new_track_of, new_track, new_of, new_answer, sooner}
use Rattle.filter.proofs.Sizes.{and_true, every_append, within_8, square_le, passing_8}
use Rattle.filter.proofs.Order.{Passed, tested, passed, goes_on, refuses, none_told, number_given}
use Rattle.filter.proofs.Lines.{states_le, sized_le, long_le, two_long}
use Rattle.filter.proofs.Seen.{seen_filter, seen_answer}

two_never : {k : ℕ} → 50 < k → eqb k 2 ≡ false
two_never {k} h = ne_eqb k 2 (λ (e : k ≡ 2). omega arith)

-- by the tests of each part: n is tested in both, and 6 in the second alone
by_tests : (s l₁ l₂ : Bool) (o₁ o₂ : Outcome Bool) (p : Bool) → ((r : Refusal) → o₂ ≡ refused r → 50 < number r) → refusal (in_order true s (l₁ && l₂) true false false (onward o₁ (λ (t : Bool). o₂)) true p nothing) ≡ sooner (refusal (in_order true s l₁ true false false o₁ true true nothing)) (refusal (in_order true s l₂ true false false o₂ true p nothing))
unfolding in_order sooner
by_tests false l₁ l₂ o₁ o₂ p h = refl
by_tests true false false o₁ o₂ p h = refl
by_tests true false true o₁ (refused r) p h = rw (two_never (h r refl))
by_tests true false true o₁ (accepted t) false h = refl
by_tests true false true o₁ (accepted t) true h = refl
by_tests true true false o₁ o₂ p h = refl
by_tests true true true (refused q) (refused r) p h = rw (two_never (h r refl)) (sym (earlier_refused q _))
by_tests true true true (refused q) (accepted t) false h = sym (earlier_refused q _)
by_tests true true true (refused q) (accepted t) true h = sym (earlier_refused q _)
by_tests true true true (accepted u) (refused r) p h = rw (two_never (h r refl))
by_tests true true true (accepted u) (accepted t) false h = refl
by_tests true true true (accepted u) (accepted t) true h = refl

pub none_sooner : (a b : Verdict) → (sooner a b).number ≡ 0 → (a.number ≡ 0) × (b.number ≡ 0)
unfolding sooner
none_sooner a b = go (eqb b.number 2) (eqb a.number 0) (eqb-true _ _) (eqb-true _ _) (eqb-false _ _)
  where
    go : (s t : Bool) → (s ≡ true → b.number ≡ 2) → (t ≡ true → a.number ≡ 0) → (t ≡ false → a.number ≡ 0 → ⊥) → (cond s b (cond t b a)).number ≡ 0 → (a.number ≡ 0) × (b.number ≡ 0)
    go true t h k l e = absurd (omega (arith, h refl))
    go false true h k l e = (k refl, e)
    go false false h k l e = absurd (l refl e)

module _ (f : Format) (n : ℕ) (l₁ l₂ : List Lent) (i₁ i₂ : List Input) (ps : List Param) where
  pub in_parts : first_refusal f (line true n [] (l₁ ++ l₂) false (i₁ ++ i₂) ps) ≡ sooner (first_refusal f (line true n [] l₁ false i₁ [])) (first_refusal f (line true n [] l₂ false i₂ ps))
  unfolding first_refusal
  in_parts =
      rw (every_append long l₁ l₂, searched_append i₁ i₂)
      (by_tests (every within (record { value = n; from = 1; to = 8 } ∷ [])) (every long l₁) (every long l₂) (searched i₁) (searched i₂) (every (fit f) ps) (λ r e. found_above i₂ r e))

-- what a New, or a part of one, comes to by the number r of its tests: v, or e where it is refused
module _ {A : Type 0} (f : Format) (a : Asks) (v e : A) {r : Verdict} (is : r ≡ first_refusal f a) where
  pub new_stopped : (r.number ≡ 0 → ⊥) → (e ≡ or e (guarded f a (accepted v))) × (r ≡ refusal (guarded f a (accepted v)))
  new_stopped h = let q = refuses f a (accepted v) (λ z. h (number_of is ∙ z)) in (ap (or e) (sym q.1), is ∙ sym q.2 ∙ ap refusal (sym q.1))

  pub new_made : r.number ≡ 0 → (v ≡ or e (guarded f a (accepted v))) × (r ≡ refusal (guarded f a (accepted v)))
  new_made z = let y = sym (number_of is) ∙ z in let g = goes_on f a (accepted v) y in (ap (or e) (sym g), is ∙ none_told f a y ∙ ap refusal (sym g))

-- ---- the parts of a New

module _ (f : Format) (n : ℕ) where
  track_told : (s : Start) → (new_track f n s).refusal ≡ first_refusal f (start_asks n s)
  unfolding new_track_of
  track_told s = number_given f (start_asks n s) (track_from n s)

  pub sheet_told : (q : List Float) (params : Params) → (new_sheet f n q params).refusal ≡ first_refusal f (new_asks n [] q params)
  unfolding new_sheet_of
  sheet_told q params = number_given f (new_asks n [] q params) (sheet_from n q params)

  -- with one start more
  pub start_told : (s : Start) (ss : List Start) (q : List Float) (params : Params) {a r : Verdict} → a ≡ (new_track f n s).refusal → r ≡ first_refusal f (new_asks n ss q params) → sooner a r ≡ first_refusal f (new_asks n (s ∷ ss) q params)
  start_told s ss q params d e = ap₂ sooner (d ∙ track_told s) e ∙ sym (in_parts f n (lent_at n s) (lent_for n ss q) (inputs_at n s) (inputs_for n ss q params) (by_params n params ∷ []))

  pub made_track : (s : Start) → (new_track f n s).refusal.number ≡ 0 → (new_track f n s).track ≡ track_from n s
  unfolding new_track_of
  made_track s z = sym (new_made f (start_asks n s) (track_from n s) empty_track (track_told s) z).0

  pub made_sheet : (q : List Float) (params : Params) → (new_sheet f n q params).refusal.number ≡ 0 → (new_sheet f n q params).sheet ≡ sheet_from n q params
  unfolding new_sheet_of
  made_sheet q params z = sym (new_made f (new_asks n [] q params) (sheet_from n q params) empty_sheet (sheet_told q params) z).0

  pub no_track : (s : Start) → ((new_track f n s).refusal.number ≡ 0 → ⊥) → (new_track f n s).track ≡ empty_track
  unfolding new_track_of
  no_track s h = sym (new_stopped f (start_asks n s) (track_from n s) empty_track (track_told s) h).0

  pub no_sheet : (q : List Float) (params : Params) → ((new_sheet f n q params).refusal.number ≡ 0 → ⊥) → (new_sheet f n q params).sheet ≡ empty_sheet
  unfolding new_sheet_of
  no_sheet q params h = sym (new_stopped f (new_asks n [] q params) (sheet_from n q params) empty_sheet (sheet_told q params) h).0

  -- ---- the tests as the code makes them; k is how many numbers a matrix has

  module _ {k : ℕ} (e : k ≡ cond (leb n 8) (n * n) 0) where
    counted_in : every within (record { value = n; from = 1; to = 8 } ∷ []) ≡ true → k ≡ n * n
    counted_in h = e ∙ within_8 n (n * n) (states_le n [] h)

    pub sheet_tested : (q : List Float) (params : Params) {vs : List Float} {noise found r : Verdict} {sized long' pass : Bool} → sized ≡ in_range 1 8 n → long' ≡ leb k (length q) → noise ≡ refusal (searched (input Noise (take k q))) → found ≡ earlier noise (refusal (searched (input Lone (take 3 vs)))) → vs ≡ values_of params → pass ≡ (leb n 8 && weights_pass f n params)
        → r ≡ earlier (refusal (in_order true sized long' true false false nothing true true nothing)) (earlier found (refusal (in_order true true true true false false nothing true pass nothing))) → r ≡ (new_sheet f n q params).refusal
    sheet_tested q params {noise = noise} {found = found} e₁ e₂ e₃ e₄ e₅ e₆ d =
        let in_noise : Found (input Noise (take k q)) noise = record { is = e₃ } in
        tested f (new_asks n [] q params) (searched (input Noise (take k q) ++ input Lone (values_of params))) d
        ((found_next in_noise Lone _ e₄).is ∙ ap (λ (v : List Float). refusal (searched (input Noise (take k q) ++ input Lone (take 3 v)))) e₅)
        refl (e₁ ∙ sym (and_true _))
        (λ h. e₂ ∙ ap (λ (j : ℕ). leb j (length q)) (counted_in h) ∙ sym (and_true _))
        refl refl refl
        (λ h. ap (λ (j : ℕ). searched (input Noise (take j q) ++ input Lone (values_of params))) (counted_in h))
        refl
        (λ h. e₆ ∙ passing_8 n _ (states_le n [] h))
        ∙ sym (sheet_told q params)

    pub track_tested : (x p : List Float) {in_state found r : Verdict} {sized long' : Bool} → sized ≡ in_range 1 8 n → long' ≡ (leb n (length x) && leb k (length p)) → in_state ≡ refusal (searched (input State (take n x))) → found ≡ earlier in_state (refusal (searched (input Covariance (take k p))))
        → r ≡ earlier (refusal (in_order true sized long' true false false nothing true true nothing)) (earlier found (refusal (in_order true true true true false false nothing true true nothing))) → r ≡ (new_track f n (from x p)).refusal
    track_tested x p {in_state = in_state} {found = found} e₁ e₂ e₃ e₄ d =
        let first : Found (input State (take n x)) in_state = record { is = e₃ } in
        tested f (start_asks n (from x p)) (searched (input State (take n x) ++ input Covariance (take k p))) d
        (found_next first Covariance _ e₄).is
        refl (e₁ ∙ sym (and_true _))
        (λ h. e₂ ∙ ap (λ (j : ℕ). leb n (length x) && leb j (length p)) (counted_in h) ∙ ap (λ (t : Bool). leb n (length x) && t) (sym (and_true _)))
        refl refl refl
        (λ h. ap (λ (j : ℕ). searched (input State (take n x) ++ input Covariance (take j p))) (counted_in h))
        refl (λ h. refl)
        ∙ sym (track_told (from x p))

    -- ---- where they tell 0: the numbers are there, and the arrays have room for them

    module _ (q : List Float) (params : Params) (z : (new_sheet f n q params).refusal.number ≡ 0) where
      asked_sheet : Passed f (new_asks n [] q params)
      asked_sheet = passed f (new_asks n [] q params) (sym (number_of (sheet_told q params)) ∙ z)

      pub sheet_in : (k ≤ length q) × (k ≤ 64)
      sheet_in = let h = sized_le f asked_sheet in omega (arith, e ∙ within_8 n (n * n) h, square_le n h, long_le f asked_sheet)

      pub sheet_is : {m : List Float} → m ≡ front k q (zeros 64) → fresh_sheet n m params ≡ sheet_from n q params
      sheet_is d = ap (λ (l : List Float). fresh_sheet n l params) (d ∙ ap (λ (j : ℕ). front j q (zeros 64)) (e ∙ within_8 n (n * n) (sized_le f asked_sheet)))

    module _ (x p : List Float) (z : (new_track f n (from x p)).refusal.number ≡ 0) where
      asked_track : Passed f (start_asks n (from x p))
      asked_track = passed f (start_asks n (from x p)) (sym (number_of (track_told (from x p))) ∙ z)

      pub state_in : (n ≤ length x) × (n ≤ 8)
      state_in = (long_le f asked_track, sized_le f asked_track)

      pub covariance_in : (k ≤ length p) × (k ≤ 64)
      covariance_in = let h = sized_le f asked_track in omega (arith, e ∙ within_8 n (n * n) h, square_le n h, two_long f asked_track)

      pub track_is : {u m : List Float} → u ≡ front n x (zeros 8) → m ≡ front k p (zeros 64) → fresh_track u m ≡ track_from n (from x p)
      track_is b d = ap₂ (λ (u m : List Float). fresh_track u m) b (d ∙ ap (λ (j : ℕ). front j p (zeros 64)) (e ∙ within_8 n (n * n) (sized_le f asked_track)))

  -- ---- the whole, by what the sooner of its parts tells

  module _ (x p q : List Float) (params : Params) {a b r : Verdict} (of_track : a ≡ (new_track f n (from x p)).refusal) (of_sheet : b ≡ (new_sheet f n q params).refusal) (is : r ≡ sooner a b) where
    told : r ≡ first_refusal f (new_asks n (from x p ∷ []) q params)
    told = is ∙ start_told (from x p) [] q params of_track (of_sheet ∙ sheet_told q params)

    pub none_made : (r.number ≡ 0 → ⊥) → refused_answer r ≡ new_answer f n x p q params
    unfolding new_of
    none_made h =
        let w = new_stopped f (new_asks n (from x p ∷ []) q params) (filter (sheet_from n q params) (track_from n (from x p))) empty told h in
        ap₂ (λ (s : Filter Float) (v : Verdict). record { filter = s; refusal = v }) w.0 w.1

    pub both_told : r.number ≡ 0 → ((new_track f n (from x p)).refusal.number ≡ 0) × ((new_sheet f n q params).refusal.number ≡ 0)
    both_told z = let y = none_sooner a b (sym (number_of is) ∙ z) in (sym (number_of of_track) ∙ y.0, sym (number_of of_sheet) ∙ y.1)

    pub all_made : r.number ≡ 0 → record { filter = filter (sheet_from n q params) (track_from n (from x p)); refusal = r } ≡ new_answer f n x p q params
    unfolding new_of
    all_made z =
        let w = new_made f (new_asks n (from x p ∷ []) q params) (filter (sheet_from n q params) (track_from n (from x p))) empty told z in
        ap₂ (λ (s : Filter Float) (v : Verdict). record { filter = s; refusal = v }) w.0 w.1

-- a test of two lengths, by the first
pub first_long : {n i : ℕ} {b t : Bool} → n ≤ i → t ≡ b → t ≡ (leb n i && b)
first_long {n} {i} h e = rw (le-leb n i h) e

pub first_short : {n i : ℕ} (b : Bool) {t : Bool} → i < n → t ≡ leb n i → t ≡ (leb n i && b)
first_short {n} {i} b h e = rw (lt-leb n i h) (e ∙ lt-leb n i h)

-- ---- an answer as it is seen, by the sheet and the track that it is made of

pub seen_made : {A : Type 0} {seen : (F : Type 0 → Type 0) → F A → F Float} (same : (P : (B : Type 0) → ((F : Type 0 → Type 0) → F B → F Float) → Type 0) → P Float (λ F x. x) → P A seen) {a : Answer A} {s : Sheet A} {t : Track A} {s' : Sheet Float} {t' : Track Float} {v : Verdict}
    → a ≡ record { filter = record { sheet = s; track = t }; refusal = v } → seen Sheet s ≡ s' → seen Track t ≡ t' → seen Answer a ≡ record { filter = filter s' t'; refusal = v }
seen_made {seen = seen} same {s = s} {t = t} {v = v} e h k = ap (seen Answer) e ∙ seen_answer same _ v ∙ ap (λ (x : Filter Float). record { filter = x; refusal = v }) (seen_filter same s t ∙ ap₂ filter h k)
