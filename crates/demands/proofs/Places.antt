-- What the search comes to, in words: the first bad number of the first slice that has one, with its place there. Assumes nothing.
use Prim.Native.Nat.{ℕ, zero, suc, ◌+◌, ◌<◌}
use mathlib.Core.Path.{◌≡◌, refl, sym, ap, ◌∙◌}
use mathlib.Core.Bool.{Bool, true, false}
use mathlib.Core.List.{List, [], ◌∷◌}
use mathlib.Core.Logic.{◌↔◌, ◌⊎◌, inl, inr, ⊎_elim}
use native.Mathlib.Omega.{arith}
use lib.ListN.{get_or}
use lib.Ieee.{Float, Format}
use lib.Ieee.Scale.{finite}
use Rattle.floats.specs.declared.Slice.{Slice}
use Rattle.floats.specs.declared.Verdict.{Verdict}
use Rattle.floats.specs.declared.Refusal.{Refusal}
use Rattle.floats.specs.declared.Refusal.TheVariants.{Size as SIZE, Short as SHORT, Stage as STAGE, Stale as STALE, Number as NUMBER, Param as PARAM, Pivot as PIVOT, Innovation as INNOV, Range as RANGE, Kind as KIND, Fresh as FRESH, Record as RECORD}
use Rattle.floats.specs.Refusal.{verdict, taken, Outcome, refused, accepted, refusal, unless, onward, nothing}
use Rattle.floats.specs.Numbers.{plus_zero, all_finite}
use Rattle.floats.specs.Search.{Input, searched_from, searched}
use Rattle.floats.proofs.Refusals.{refused_never}
use Rattle.floats.proofs.Search.{none_bad, all_good}
use Rattle.angles.specs.Kinds.{plain, is_plain, half_of}
use Rattle.angles.specs.Kinds.{Kind}
use Rattle.filter.specs.Asked.{Asks, within, long, fit, every, guarded}
use Rattle.filter.specs.Calls.{halves}
use Rattle.demands.specs.Rows.{Some, here, there, NotFinite, FirstIn, FirstBad, found, further, BadTurn, FirstBadTurn, Placed}
use Rattle.demands.proofs.Rows.{two_ways, itself, fails_where, passes_where, all_finite_lem, bad_turn}
use Rattle.demands.proofs.Passed.{Pass, finite_in, searched_finite}

-- ---- one slice

first_zero : {x : Float} {v : List Float} → NotFinite x → FirstIn (x ∷ v) 0
first_zero b = record { has = b; before = λ j h. absurd (omega arith) }

first_next : {x : Float} {v : List Float} {p : ℕ} → finite x ≡ true → FirstIn v p → FirstIn (x ∷ v) (suc p)
first_next {x} {v} {p} e w = record { has = w.has; before = earlier }
  where
    earlier : (j : ℕ) → j < suc p → NotFinite (get_or (x ∷ v) j plus_zero) → ⊥
    earlier zero h b = two_ways e b
    earlier (suc j) h b = w.before j (omega arith) b

slice_words : (s : Slice) (i : ℕ) (v : List Float) (r : Refusal) → searched_from s i v ≡ refused r → (p : ℕ) × (r ≡ NUMBER s (i + p)) × FirstIn v p
unfolding searched_from
slice_words s i [] r e = absurd (refused_never (sym e))
slice_words s i (x ∷ v) r e = go (finite x) refl (slice_words s (i + 1) v r) e
  where
    go : (b : Bool) → finite x ≡ b → (searched_from s (i + 1) v ≡ refused r → (p : ℕ) × (r ≡ NUMBER s (i + 1 + p)) × FirstIn v p)
        → unless b (NUMBER s i) (searched_from s (i + 1) v) ≡ refused r → (p : ℕ) × (r ≡ NUMBER s (i + p)) × FirstIn (x ∷ v) p
    go true t k e = let q = k e in let z : i + 1 + q.0 ≡ i + suc q.0 = omega arith in (suc q.0, q.1 ∙ ap (NUMBER s) z, first_next t q.2)
    go false t k e = let y : NUMBER s i ≡ r = cc in let z : i ≡ i + 0 = omega arith in (0, sym y ∙ ap (NUMBER s) z, first_zero t)

words_slice : (s : Slice) (i : ℕ) (v : List Float) (p : ℕ) → FirstIn v p → searched_from s i v ≡ refused (NUMBER s (i + p))
unfolding searched_from
words_slice s i [] p w = absurd (two_ways refl w.has)
words_slice s i (x ∷ v) zero w = let z : i + 0 ≡ i = omega arith in rw (w.has, z)
words_slice s i (x ∷ v) (suc p) w =
    let z : i + 1 + p ≡ i + suc p = omega arith in
    rw (passes_where (itself (finite x)) (λ b. w.before 0 (omega arith) b))
    (words_slice s (i + 1) v p (record { has = w.has; before = λ j h b. w.before (suc j) (omega arith) b }) ∙ ap (λ (k : ℕ). refused (NUMBER s k)) z)

-- ---- slice after slice

pub no_some : (v : List Float) → all_finite v ≡ true → Some NotFinite v → ⊥
no_some v e = (all_finite_lem v).passes e

-- A SEARCH THAT REFUSES DOES SO BY THE FIRST BAD NUMBER
pub search_words : (l : List Input) (r : Refusal) → searched l ≡ refused r → (s : Slice) × (i : ℕ) × (r ≡ NUMBER s i) × FirstBad s i l
unfolding searched
search_words [] r e = absurd (refused_never (sym e))
search_words (x ∷ l) r e = go (searched_from x.name 0 x.numbers) refl (search_words l r) e
  where
    go : (o : Outcome Bool) → searched_from x.name 0 x.numbers ≡ o → (searched l ≡ refused r → (s : Slice) × (i : ℕ) × (r ≡ NUMBER s i) × FirstBad s i l)
        → onward o (λ (t : Bool). searched l) ≡ refused r → (s : Slice) × (i : ℕ) × (r ≡ NUMBER s i) × FirstBad s i (x ∷ l)
    go (refused q) d k e = let y : q ≡ r = cc in let w = slice_words x.name 0 x.numbers q d in let z : 0 + w.0 ≡ w.0 = omega arith in (x.name, w.0, sym y ∙ w.1 ∙ ap (NUMBER x.name) z, found w.2)
    go (accepted t) d k e = let w = k e in (w.0, w.1, w.2, further (no_some x.numbers (all_good x.name 0 x.numbers d)) w.3)

-- what passes has none
passed_none : (l : List Input) → Pass finite_in l → Some (λ (x : Input). Some NotFinite x.numbers) l → ⊥
passed_none [] h w = elim w [ ]
passed_none (x ∷ l) h (here w) = no_some x.numbers h.0 w
passed_none (x ∷ l) h (there w) = passed_none l h.1 w

-- the first bad one is a bad one
in_slice : (v : List Float) (i : ℕ) → NotFinite (get_or v i plus_zero) → Some NotFinite v
in_slice [] i b = absurd (two_ways refl b)
in_slice (x ∷ v) zero b = here b
in_slice (x ∷ v) (suc i) b = there (in_slice v i b)

whence : {s : Slice} {i : ℕ} {l : List Input} → FirstBad s i l → Some (λ (x : Input). Some NotFinite x.numbers) l
whence {i = i} (found {x = x} w) = here (in_slice x.numbers i w.has)
whence (further n w) = there (whence w)

-- and by none else
pub words_search : {s : Slice} {i : ℕ} (l : List Input) → FirstBad s i l → searched l ≡ refused (NUMBER s i)
unfolding searched
words_search [] w = elim w [ ]
words_search {i = i} (x ∷ l) (found w) = let z : 0 + i ≡ i = omega arith in rw (words_slice x.name 0 x.numbers i w, z)
words_search (x ∷ l) (further n w) = rw (none_bad x.name 0 x.numbers (passes_where (all_finite_lem x.numbers) n)) (words_search l w)

-- there is one just where a number isn't finite
pub some_bad : (l : List Input) → Some (λ (x : Input). Some NotFinite x.numbers) l ↔ ((s : Slice) × (i : ℕ) × FirstBad s i l)
some_bad l = (λ w. go w (searched l) refl, λ w. whence w.2)
  where
    go : Some (λ (x : Input). Some NotFinite x.numbers) l → (o : Outcome Bool) → searched l ≡ o → (s : Slice) × (i : ℕ) × FirstBad s i l
    go w (refused r) e = let k = search_words l r e in (k.0, k.1, k.3)
    go w (accepted t) e = absurd (passed_none l (searched_finite l e) w)

-- one number is the first
pub one_bad : {s t : Slice} {i j : ℕ} {l : List Input} → FirstBad s i l → FirstBad t j l → NUMBER s i ≡ NUMBER t j
one_bad {s} {t} {i} {j} {l} x y = let e : ◌≡◌ {A = Outcome Bool} (refused (NUMBER s i)) (refused (NUMBER t j)) = sym (words_search l x) ∙ words_search l y in cc

-- where it is accepted there is none, and where all are finite it is accepted
pub no_bad : {s : Slice} {i : ℕ} {t : Bool} (l : List Input) → searched l ≡ accepted t → FirstBad s i l → ⊥
no_bad l e w = refused_never (sym (words_search l w) ∙ e)

pub finite_searched : (l : List Input) → Pass finite_in l → searched l ≡ nothing
unfolding searched
finite_searched [] h = refl
finite_searched (x ∷ l) h = rw (none_bad x.name 0 x.numbers h.0) (finite_searched l h.1)

-- a call whose tests pass is what its steps come to
module _ {A : Type 0} (f : Format) (a : Asks) (o : Outcome A) where
  pub passes : a.fits ≡ true → every within a.sizes ≡ true → every long a.lent ≡ true → a.formed ≡ true → a.stale ≡ false → a.fresh ≡ false → Pass finite_in a.inputs → every is_plain a.plain ≡ true → every (fit f) a.params ≡ true → guarded f a o ≡ o
  unfolding guarded
  passes e₁ e₂ e₃ e₄ e₅ e₆ e₇ e₈ e₉ = rw (e₁, e₂, e₃, e₄, e₅, e₆, finite_searched a.inputs e₇, e₈, e₉)

  -- and two whose tests agree come to the same
  pub agrees : (c : Asks) → a.fits ≡ c.fits → every within a.sizes ≡ every within c.sizes → every long a.lent ≡ every long c.lent → a.formed ≡ c.formed → a.stale ≡ c.stale → a.fresh ≡ c.fresh → searched a.inputs ≡ searched c.inputs → a.plain ≡ c.plain → a.params ≡ c.params → guarded f a o ≡ guarded f c o
  unfolding guarded
  agrees c e₁ e₂ e₃ e₄ e₅ e₆ e₇ e₈ e₉ = rw (e₁, e₂, e₃, e₄, e₅, e₆, e₇, e₈, e₉)

pub none_finite : (l : List Input) → ((s : Slice) (i : ℕ) → FirstBad s i l → ⊥) → Pass finite_in l
none_finite l n = go (searched l) refl
  where
    go : (o : Outcome Bool) → searched l ≡ o → Pass finite_in l
    go (refused r) e = let w = search_words l r e in absurd (n w.0 w.1 w.3)
    go (accepted t) e = searched_finite l e

-- ---- half-turns

half_at : (ks : List Kind) (i : ℕ) → get_or (halves ks) i plus_zero ≡ half_of (get_or ks i plain)
half_at [] i = refl
half_at (k ∷ ks) zero = refl
half_at (k ∷ ks) (suc i) = half_at ks i

-- THE FIRST BAD HALF-TURN is at the index of the first kind that is a turn by a number that isn't finite
pub turn_at : (ks : List Kind) (i : ℕ) → FirstIn (halves ks) i ↔ FirstBadTurn ks i
turn_at ks i = (λ w. record { has = to i w.has; before = λ j h b. w.before j h (from j b) }, λ w. record { has = from i w.has; before = λ j h b. w.before j h (to j b) })
  where
    to : (j : ℕ) → NotFinite (get_or (halves ks) j plus_zero) → BadTurn (get_or ks j plain)
    to j b = (bad_turn (get_or ks j plain)).fails (sym (ap finite (half_at ks j)) ∙ b)

    from : (j : ℕ) → BadTurn (get_or ks j plain) → NotFinite (get_or (halves ks) j plus_zero)
    from j b = ap finite (half_at ks j) ∙ fails_where (bad_turn (get_or ks j plain)) b

-- ---- the places that are told

placed : (r : Refusal) → Placed (verdict r)
placed SIZE = inl refl
placed SHORT = inl refl
placed STAGE = inl refl
placed STALE = inl refl
placed (NUMBER s i) = inr (inl (s, refl))
placed PARAM = inl refl
placed (PIVOT j) = inr (inr (inl refl))
placed (INNOV j) = inr (inr (inr refl))
placed RANGE = inl refl
placed KIND = inl refl
placed FRESH = inl refl
placed RECORD = inl refl

pub placed_of : {A : Type 0} (o : Outcome A) → Placed (refusal o)
placed_of (refused r) = placed r
placed_of (accepted a) = inl refl

pub placed_so : (v : Verdict) → (v ≡ taken) ⊎ ((r : Refusal) × (v ≡ verdict r)) → Placed v
placed_so v w = ⊎_elim (λ e. rw e (inl refl)) (λ q. rw q.1 (placed q.0)) w
