-- 7 and 8 tell the row of the first bad pivot: of the listed results the first that fails is a pivot just where this is the first bad one of its matrix, and what is listed before the factor has passed. Then by calls: when 51 to 56, 7 and 8 are given, and which calls give 7, 8 and 9. Assumes nothing.
use Prim.Native.Nat.{ℕ, ◌<◌, ◌≤◌}
use mathlib.Core.Path.{◌≡◌, refl, sym, ap, ◌∙◌, subst}
use mathlib.Core.Bool.{Bool, true, false, cond}
use mathlib.Core.List.{List, [], ◌∷◌, ◌++◌}
use mathlib.Core.Logic.{◌↔◌, ◌⊎◌, inr, ⊎_elim}
use native.Mathlib.Omega.{arith}
use lib.Ieee.{Float, Format}
use Rattle.floats.specs.declared.Slice.{Slice}
use Rattle.floats.specs.declared.Refusal.{Refusal}
use Rattle.floats.specs.declared.Refusal.TheVariants.{Number as NUMBER, Range as RANGE, Pivot as PIVOT, Innovation as INNOV}
use Rattle.floats.specs.Refusal.{verdict}
use Rattle.floats.proofs.Refusals.{number, named, slice_above}
use Rattle.angles.specs.Kinds.{Kind}
use Rattle.matrix.specs.Results.{Result, refusal_of, results, planned}
use Rattle.matrix.specs.Factor.{factor_of}
use Rattle.matrix.specs.Factored.{BadPivot}
use Rattle.matrix.proofs.Results.{work_refused}
use Rattle.matrix.proofs.FactorRows.{row_exactly}
use Rattle.matrix.proofs.Flat.{split}
use Rattle.correction.specs.Correct.{Head}
use Rattle.filter.specs.Types.{Filter}
use Rattle.filter.specs.Asked.{Size, Asks}
use Rattle.filter.specs.Filters.{seen}
use Rattle.filter.specs.Calls.{CloseCall, Call, setting, closing, open_prediction, open_correction, close_correction, close_correction_flat, asks, plan, weighted_from, flat_from}
use Rattle.filter.specs.Steps.{step}
use Rattle.demands.specs.Rows.{Some, here, there, FirstBad, searches, Fails, FirstFails, now, later, Cause, stage, size, short, form, stale, fresh, kind, param, met, gives, Applies, rank, Free, IsOpen, IsClose, IsCorrection, ByStep}
use Rattle.demands.specs.Rows as Row
use Rattle.demands.specs.Listed.{listed_at_points, listed_at_open, listed_at_head, listed_at_gain, listed_at_correction}
use Rattle.stepped.proofs.Seen.{fits_seen}
use Rattle.demands.proofs.Rows.{two_ways, itself, passes_where, none, parted}
use Rattle.demands.proofs.Exactly.{first_words, first_tests, no_first, exactly, as_refused}
use Rattle.demands.proofs.Listed.{open_prediction_lists, open_correction_lists, close_correction_lists, close_correction_flat_lists}
use Rattle.demands.proofs.Table.{regular, searches_so, images_searched, steps_give, by_row}

-- none of these is refused by r
abbrev Others : Refusal → List Result → Type 0
Others r [] = Unit {0}
Others r (v ∷ vs) = (refusal_of v ≡ r → ⊥) × Others r vs

others_never : (r : Refusal) (vs : List Result) → Others r vs → FirstFails r vs → ⊥
others_never r [] o w = elim w [ ]
others_never r (v ∷ vs) o (now b) = o.0 refl
others_never r (v ∷ vs) o (later m w) = others_never r vs o.1 w

-- others may stand behind,
behind : (r : Refusal) (vs ws : List Result) → Others r ws → FirstFails r (vs ++ ws) ↔ FirstFails r vs
behind r vs ws o = (cut r vs o, keep r vs)
  where
    cut : (r : Refusal) (vs : List Result) → Others r ws → FirstFails r (vs ++ ws) → FirstFails r vs
    cut r [] o w = absurd (others_never r ws o w)
    cut r (v ∷ vs) o (now b) = now b
    cut r (v ∷ vs) o (later m w) = later m (cut r vs o w)

    keep : (r : Refusal) (vs : List Result) → FirstFails r vs → FirstFails r (vs ++ ws)
    keep r [] w = elim w [ ]
    keep r (v ∷ vs) (now b) = now b
    keep r (v ∷ vs) (later m w) = later m (keep r vs w)

-- and before, where they have passed
before : (r : Refusal) (vs ws : List Result) → Others r vs → FirstFails r (vs ++ ws) ↔ ((Some Fails vs → ⊥) × FirstFails r ws)
before r vs ws o = (cut r vs o, λ w. keep vs w.0 w.1)
  where
    cut : (r : Refusal) (vs : List Result) → Others r vs → FirstFails r (vs ++ ws) → (Some Fails vs → ⊥) × FirstFails r ws
    cut r [] o w = (none, w)
    cut r (v ∷ vs) o (now b) = absurd (o.0 refl)
    cut r (v ∷ vs) o (later m w) = let k = cut r vs o.1 w in (λ x. ⊎_elim m k.0 (parted x), k.1)

    keep : (vs : List Result) → (Some Fails vs → ⊥) → FirstFails r ws → FirstFails r (vs ++ ws)
    keep [] m w = w
    keep (v ∷ vs) m w = later (λ b. m (here b)) (keep vs (λ x. m (there x)) w)

module _ (f : Format) where
  -- the factor's own results
  by_factor : (r : ℕ → Refusal) (a : List Float) (n j : ℕ) → n ≤ 8 → ((i : ℕ) → r i ≡ r j → i ≡ j) → (RANGE ≡ r j → ⊥) → FirstFails (r j) (results (factor_of f r a n)) ↔ BadPivot f a n j
  by_factor r a n j small own apart =
      let k = work_refused (factor_of f r a n) (r j) in
      let e = row_exactly f r a n small j own apart in
      (λ w. e.0 (k.1 (first_tests w)), λ b. first_words (k.0 (e.1 b)))

  open_pivot : (n j : ℕ) (x p : List Float) (scale : Float) → n ≤ 8 → FirstFails (PIVOT j) (listed_at_open f n x p scale) ↔ BadPivot f p n j
  open_pivot n j x p scale small =
      let k = behind (PIVOT j) (results (factor_of f PIVOT p n)) (listed_at_points f n x p scale) (λ e. omega (arith, ap number e), (λ e. omega (arith, ap number e), tt)) in
      let w = by_factor PIVOT p n j small (λ i e. ap (λ (r : Refusal). (verdict r).place) e) (λ e. omega (arith, ap number e)) in
      (λ v. w.0 (k.0 v), λ b. k.1 (w.1 b))

  correction_pivot : (h : Head) (j : ℕ) → h.m ≤ 8 → FirstFails (INNOV j) (listed_at_correction f h) ↔ ((Some Fails (listed_at_head f h) → ⊥) × BadPivot f h.s h.m j)
  correction_pivot h j small =
      let ranges : RANGE ≡ INNOV j → ⊥ = λ e. omega (arith, ap number e) in
      let a = before (INNOV j) (listed_at_head f h) (results (factor_of f INNOV h.s h.m) ++ listed_at_gain f h) (ranges, (ranges, (ranges, (ranges, tt)))) in
      let k = behind (INNOV j) (results (factor_of f INNOV h.s h.m)) (listed_at_gain f h) (ranges, (ranges, (ranges, (ranges, (ranges, tt))))) in
      let w = by_factor INNOV h.s h.m j small (λ i e. ap (λ (r : Refusal). (verdict r).place) e) ranges in
      (λ v. let u = a.0 v in (u.0, w.0 (k.0 u.1)), λ b. a.1 (b.0, k.1 (w.1 b.1)))

-- ---- by calls

-- a row that gives 7, 8 or 9 is one that the steps meet
of_steps : (r : Refusal) → 6 < number r → number r < 10 → (c : Cause) → gives c ≡ r → c ≡ met r
of_steps r h k stage e = absurd (omega (arith, ap number e))
of_steps r h k size e = absurd (omega (arith, ap number e))
of_steps r h k short e = absurd (omega (arith, ap number e))
of_steps r h k form e = absurd (omega (arith, ap number e))
of_steps r h k stale e = absurd (omega (arith, ap number e))
of_steps r h k fresh e = absurd (omega (arith, ap number e))
of_steps r h k (Row.number s i) e = absurd (omega (arith, ap number e, slice_above s))
of_steps r h k kind e = absurd (omega (arith, ap number e))
of_steps r h k param e = absurd (omega (arith, ap number e))
of_steps r h k (met q) e = ap met e

module _ (f : Format) (s : Filter) where
  -- the rows before the steps don't go by their results
  unstepped : (a : Asks) (vs ws : List Result) (d : Cause) → rank d < 9 → Applies f a vs d → Applies f a ws d
  unstepped a vs ws stage l x = x
  unstepped a vs ws size l x = x
  unstepped a vs ws short l x = x
  unstepped a vs ws form l x = x
  unstepped a vs ws stale l x = x
  unstepped a vs ws fresh l x = x
  unstepped a vs ws (Row.number t i) l x = x
  unstepped a vs ws kind l x = x
  unstepped a vs ws param l x = x
  unstepped a vs ws (met r) l x = absurd (omega arith)

  abbrev steps : Call → List Result
  steps c = planned (plan f (seen s) c)

  with_steps : (c : Call) (d : Cause) → rank d < 9 → Applies f (asks (seen s) c) [] d → Applies f (asks (seen s) c) (steps c) d
  with_steps c = unstepped (asks (seen s) c) [] (steps c)

  without_steps : (c : Call) (d : Cause) → rank d < 9 → Applies f (asks (seen s) c) (steps c) d → Applies f (asks (seen s) c) [] d
  without_steps c = unstepped (asks (seen s) c) (steps c) []

  -- one of 51 to 56 is given, by a call that opens nothing, just where nothing is refused before the search and the first bad number is there
  pub number_exactly : (c : Call) → (IsOpen c → ⊥) → (t : Slice) (i : ℕ) → ((step f s c).reply.refusal ≡ verdict (NUMBER t i)) ↔ (Free f 6 s c × FirstBad t i (searches s c))
  number_exactly c n t i = (
    λ e. let w = by_row f s c (NUMBER t i) (λ b. n b.1) e in let free : Free f 6 s c = λ d l x. w.1 d l (with_steps c d (omega arith) x) in (free, subst (FirstBad t i) (searched free) w.0),
    λ w. (exactly f s c (NUMBER t i)).1 (record { cause = Row.number t i; gives_it = refl; applies = subst (FirstBad t i) (sym (searched w.0)) w.1; no_earlier = λ d l x. w.0 d l (without_steps c d (omega arith) x) }),
  )
    where
      searched : Free f 6 s c → (asks (seen s) c).inputs ≡ searches s c
      searched free = searches_so (seen s) c ∙ images_searched s c (sym (fits_seen s c) ∙ passes_where (itself (asks (seen s) c).fits) (free stage (omega arith)))

  -- 7, 8 and 9 are given just where nothing is refused before the steps and the first result that fails gives them, whatever B says of that
  met_exactly : (c : Call) (r : Refusal) → 6 < number r → number r < 10 → {B : Type 0} → (Free f 9 s c → FirstFails r (steps c) ↔ B) → ((step f s c).reply.refusal ≡ verdict r) ↔ (Free f 9 s c × B)
  met_exactly c r h k {B} so = (to, λ w. (exactly f s c r).1 (record { cause = met r; gives_it = refl; applies = (so w.0).1 w.1; no_earlier = λ d l x. w.0 d l (without_steps c d l x) }))
    where
      to : (step f s c).reply.refusal ≡ verdict r → Free f 9 s c × B
      to e =
          let d = (exactly f s c r).0 e in
          let m = of_steps r h k d.cause d.gives_it in
          let free : Free f 9 s c = λ b l x. d.no_earlier b (omega (arith, ap rank m)) (with_steps c b l x) in
          (free, (so free).0 (subst (Applies f (asks (seen s) c) (steps c)) m d.applies))

  -- so by a call whose steps can give them
  by_own_steps : (c : Call) (r : Refusal) → 6 < number r → number r < 10 → (step f s c).reply.refusal ≡ verdict r → ByStep c r
  by_own_steps c r h k e = steps_give f s c r ((met_exactly c r h k (λ u. (λ w. w, λ w. w))).0 e).1

  -- which 7 is by an open, 8 by a close of a correction, 9 by an open or a close
  pub pivot_by_open : (c : Call) → (step f s c).reply.refusal.number ≡ 7 → IsOpen c
  unfolding named
  pivot_by_open c e = let w = as_refused f s c (omega arith) e in by_own_steps c (PIVOT w.0) (omega arith) (omega arith) w.1

  pub innov_by_correction : (c : Call) → (step f s c).reply.refusal.number ≡ 8 → IsCorrection c
  unfolding named
  innov_by_correction c e = let w = as_refused f s c (omega arith) e in by_own_steps c (INNOV w.0) (omega arith) (omega arith) w.1

  pub range_by_steps : (c : Call) → (step f s c).reply.refusal.number ≡ 9 → IsOpen c ⊎ IsClose c
  unfolding named
  range_by_steps c e = by_own_steps c RANGE (omega arith) (omega arith) (as_refused f s c (omega arith) e).1

  states_small : (c : Call) → Free f 9 s c → s.sheet.n ≤ 8
  states_small c u = ⊎_elim (λ h. absurd (u size (omega arith) (rw (regular f (seen s) c).states (here (inr h))))) (λ h. h) (split 8 s.sheet.n)

  pub prediction_pivot : (b : List Float) (j : ℕ) → let c = setting (open_prediction b) in ((step f s c).reply.refusal ≡ verdict (PIVOT j)) ↔ (Free f 9 s c × BadPivot f s.track.p s.sheet.n j)
  prediction_pivot b j =
      let c = setting (open_prediction b) in
      met_exactly c (PIVOT j) (omega arith) (omega arith) (λ u. rw (open_prediction_lists f (seen s) b) (open_pivot f s.sheet.n j s.track.x s.track.p _ (states_small c u)))

  pub correction_opened_pivot : (b : List Float) (j : ℕ) → let c = setting (open_correction b) in ((step f s c).reply.refusal ≡ verdict (PIVOT j)) ↔ (Free f 9 s c × ((s.track.stale ≡ true) × BadPivot f s.track.p s.sheet.n j))
  correction_opened_pivot b j =
      let c = setting (open_correction b) in
      met_exactly c (PIVOT j) (omega arith) (omega arith) (λ u. rw (open_correction_lists f (seen s) b) (afresh s.track.stale (open_pivot f s.sheet.n j s.track.x s.track.p _ (states_small c u))))
    where
      afresh : (t : Bool) {r : Refusal} {vs : List Result} {B : Type 0} → FirstFails r vs ↔ B → FirstFails r (cond t vs []) ↔ ((t ≡ true) × B)
      afresh true e = (λ w. (refl, e.0 w), λ w. e.1 w.1)
      afresh false {r} e = (λ w. absurd (no_first r w), λ w. absurd (two_ways w.0 refl))

  -- m, the second size of a close
  measured_small : (m : ℕ) (c : CloseCall) {l : List Size} → (asks (seen s) (closing c)).sizes ≡ record { value = s.sheet.n; from = 1; to = 8 } ∷ record { value = m; from = 1; to = 4 } ∷ l → Free f 9 s (closing c) → m ≤ 8
  measured_small m c e u = ⊎_elim (λ h. absurd (u size (omega arith) (rw e (there (here (inr h)))))) (λ h. omega arith) (split 4 m)

  pub correction_closed_pivot : (m : ℕ) (z r : List Float) (kinds : List Kind) (observed : List Float) (j : ℕ) → let c = closing (close_correction m z r kinds observed) in let h = weighted_from f (seen s) m z r kinds observed in
      ((step f s c).reply.refusal ≡ verdict (INNOV j)) ↔ (Free f 9 s c × ((Some Fails (listed_at_head f h) → ⊥) × BadPivot f h.s m j))
  correction_closed_pivot m z r kinds observed j =
      met_exactly (closing (close_correction m z r kinds observed)) (INNOV j) (omega arith) (omega arith)
      (λ u. rw (close_correction_lists f (seen s) m z r kinds observed) (correction_pivot f (weighted_from f (seen s) m z r kinds observed) j (measured_small m (close_correction m z r kinds observed) refl u)))

  pub flat_correction_pivot : (m : ℕ) (z r observed : List Float) (j : ℕ) → let c = closing (close_correction_flat m z r observed) in let h = flat_from f (seen s) m z r observed in
      ((step f s c).reply.refusal ≡ verdict (INNOV j)) ↔ (Free f 9 s c × ((Some Fails (listed_at_head f h) → ⊥) × BadPivot f h.s m j))
  flat_correction_pivot m z r observed j =
      met_exactly (closing (close_correction_flat m z r observed)) (INNOV j) (omega arith) (omega arith)
      (λ u. rw (close_correction_flat_lists f (seen s) m z r observed) (correction_pivot f (flat_from f (seen s) m z r observed) j (measured_small m (close_correction_flat m z r observed) refl u)))
