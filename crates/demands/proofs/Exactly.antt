-- Exactly when: a number is given just where it is due, and a call is taken just where no row of the table applies.
-- No law here goes by the calls: each row is one law over what is asked. Assumes nothing.
use Prim.Native.Nat.{ℕ, zero, suc, ◌≤◌, ◌<◌}
use mathlib.Core.Path.{◌≡◌, refl, sym, ap, ◌∙◌, subst}
use mathlib.Core.Bool.{Bool, true, false, not}
use mathlib.Core.List.{List, [], ◌∷◌}
use mathlib.Core.Logic.{◌↔◌, ◌≢◌, ◌⊎◌, inl, inr, ⊎_elim}
use native.Mathlib.Omega.{arith}
use borrow.Author.Tests.{leb-true, leb-false}
use lib.Dec.{leb}
use lib.ListN.{length}
use lib.Ieee.{Float, Format, add}
use lib.Ieee.Scale.{finite}
use Rattle.floats.specs.declared.Slice.{Slice}
use Rattle.floats.specs.declared.Refusal.{Refusal}
use Rattle.floats.specs.declared.Refusal.TheVariants.{Short as SHORT, Param as PARAM}
use Rattle.floats.specs.Refusal.{bad_lone, verdict, taken, Outcome, refused, accepted, refusal, or, unless, onward}
use Rattle.floats.specs.Search.{searched}
use Rattle.floats.specs.Numbers.{plus_zero, all_finite}
use Rattle.floats.specs.Fronts.{over}
use Rattle.root.specs.Definition.{root_of, rooted}
use Rattle.root.specs.Answer.{root_outcome}
use Rattle.angles.specs.Wrap.{wrap_of, wrap_step, half_turn, shown}
use Rattle.angles.specs.Kinds.{is_plain, half_of, passes, kind_of}
use Rattle.angles.specs.Kinds.{Kind}
use Rattle.matrix.specs.Results.{Result, First, now, later, Plan, run, planned}
use Rattle.matrix.proofs.Flat.{split}
use Rattle.floats.proofs.Refusals.{number_above, number_of, named, by_number, verdict_same}
use Rattle.matrix.proofs.Results.{plan_refused}
use Rattle.sigma.specs.Weights.{Params}
use Rattle.filter.specs.Types.{Filter}
use Rattle.filter.specs.Asked.{Asks, within, long, fit, every, guarded}
use Rattle.filter.specs.Filters.{seen}
use Rattle.filter.specs.Calls.{Call, asks, Done, plan}
use Rattle.filter.specs.Steps.{outcome, stepped, step, params_of, params_read, stale_read}
use Rattle.filter.specs.New.{empty_sheet, empty_track, empty, Start, from, new_asks, start_asks, new_sheet_of, new_sheet, new_track_of, new_track, new_of, new_answer}
use Rattle.filter.specs.Load.{filter_in, load_asks, load_of, load_answer}
use Rattle.filter.specs.Point.{point_asks, point_at, point_refusal, point_of}
use Rattle.demands.specs.Rows.{Some, here, there, NotFinite, NotAbove, Below, OutOfRange, Shorter, IsTurn, BadTurn, UnfitTurn, Unfit, FirstFails, Cause, stage, size, short, form, stale, fresh, kind, param, met, gives, Applies, rank, Due}
use Rattle.demands.specs.Rows as Row
use Rattle.demands.proofs.Places.{search_words, one_bad, no_bad}
use Rattle.demands.proofs.Rows.{Means, itself, turned, fails_where, passes_where, reworded, none, parted, some, ranged, lent_long, all_finite_lem, is_turn, fitting, half_turn_lem, bad_turn, turn, well, rooted_means}

-- ---- the results of the steps

-- the first that fails, by the tests and in words
pub first_words : {r : Refusal} {vs : List Result} → First r vs → FirstFails r vs
first_words (now {v = v} h) = Row.now ((well v).fails h)
first_words (later {v = v} h w) = Row.later (λ b. (well v).passes h b) (first_words w)

pub first_tests : {r : Refusal} {vs : List Result} → FirstFails r vs → First r vs
first_tests (Row.now {v = v} b) = now (fails_where (well v) b)
first_tests (Row.later {v = v} n w) = later (passes_where (well v) n) (first_tests w)

-- one result is the first
one_first : {q r : Refusal} {vs : List Result} → FirstFails q vs → FirstFails r vs → q ≡ r
one_first (Row.now b) (Row.now d) = refl
one_first (Row.now b) (Row.later n w) = absurd (n b)
one_first (Row.later n w) (Row.now b) = absurd (n b)
one_first (Row.later n w) (Row.later m u) = one_first w u

pub no_first : (r : Refusal) → FirstFails r [] → ⊥
no_first r w = elim w [ ]

-- an outcome that is the results' own: refused by the first that fails, accepted where none does
abbrev pub Ends : {A : Type 0} → List Result → Outcome A → Type 0
Ends vs (refused r) = FirstFails r vs
Ends vs (accepted a) = (r : Refusal) → FirstFails r vs → ⊥

module _ {A : Type 0} where
  pub plan_ends : (p : Plan A) → Ends (planned p) (run p)
  plan_ends p = go (run p) refl
    where
      accepted_never : {r : Refusal} {a : A} → accepted a ≡ refused r → ⊥
      accepted_never e = let z : ◌≡◌ {A = ℕ} 0 1 = cc in omega arith

      go : (o : Outcome A) → run p ≡ o → Ends (planned p) o
      go (refused r) e = first_words ((plan_refused p r).0 e)
      go (accepted a) e = λ r w. accepted_never (sym e ∙ (plan_refused p r).1 (first_tests w))

-- ---- the order

cmp : (a b : ℕ) → (a < b) ⊎ ((a ≡ b) ⊎ (b < a))
cmp a b = ⊎_elim (λ l. inl l) (λ g. inr (⊎_elim (λ l. inr l) (λ h. inl (omega arith)) (split b a))) (split a b)

-- the rows before the steps have a rank each; those of 51 to 56 share one
nth : ℕ → Cause
nth zero = stage
nth (suc zero) = size
nth (suc (suc zero)) = short
nth (suc (suc (suc zero))) = form
nth (suc (suc (suc (suc zero)))) = stale
nth (suc (suc (suc (suc (suc zero))))) = fresh
nth (suc (suc (suc (suc (suc (suc zero)))))) = kind
nth (suc (suc (suc (suc (suc (suc (suc zero))))))) = kind
nth (suc (suc (suc (suc (suc (suc (suc (suc n)))))))) = param

nth_rank : (c : Cause) → rank c < 9 → rank c ≢ 6 → nth (rank c) ≡ c
unfolding nth
nth_rank stage h g = refl
nth_rank size h g = refl
nth_rank short h g = refl
nth_rank form h g = refl
nth_rank stale h g = refl
nth_rank fresh h g = refl
nth_rank (Row.number s i) h g = absurd (g refl)
nth_rank kind h g = refl
nth_rank param h g = refl
nth_rank (met r) h g = absurd (omega arith)

same_rank : (c d : Cause) → rank d < 9 → rank d ≢ 6 → rank c ≡ rank d → c ≡ d
same_rank c d h g e = sym (nth_rank c (omega arith) (λ z. g (sym e ∙ z))) ∙ ap nth e ∙ nth_rank d h g

pub of_search : (c : Cause) → rank c ≡ 6 → (s : Slice) × (i : ℕ) × (c ≡ Row.number s i)
of_search stage e = absurd (omega arith)
of_search size e = absurd (omega arith)
of_search short e = absurd (omega arith)
of_search form e = absurd (omega arith)
of_search stale e = absurd (omega arith)
of_search fresh e = absurd (omega arith)
of_search (Row.number s i) e = (s, i, refl)
of_search kind e = absurd (omega arith)
of_search param e = absurd (omega arith)
of_search (met r) e = absurd (omega arith)

module _ (f : Format) (a : Asks) (vs : List Result) where
  late : (c : Cause) → 9 ≤ rank c → Applies f a vs c → FirstFails (gives c) vs
  late stage h w = absurd (omega arith)
  late size h w = absurd (omega arith)
  late short h w = absurd (omega arith)
  late form h w = absurd (omega arith)
  late stale h w = absurd (omega arith)
  late fresh h w = absurd (omega arith)
  late (Row.number s i) h w = absurd (omega arith)
  late kind h w = absurd (omega arith)
  late param h w = absurd (omega arith)
  late (met r) h w = w

  -- two rows that apply at one rank give one refusal
  found_one : (c d : Cause) → rank c ≡ 6 → rank d ≡ 6 → Applies f a vs c → Applies f a vs d → gives c ≡ gives d
  found_one c d e g x y =
      let p = of_search c e in
      let q = of_search d g in
      ap gives p.2 ∙ one_bad (subst (Applies f a vs) p.2 x) (subst (Applies f a vs) q.2 y) ∙ sym (ap gives q.2)

  one_row : (c d : Cause) → rank c ≡ rank d → Applies f a vs c → Applies f a vs d → gives c ≡ gives d
  one_row c d e x y =
      ⊎_elim
      (λ l. ⊎_elim
      (λ u. ap gives (same_rank c d l (λ z. omega arith) e))
      (λ g. ⊎_elim (λ z. found_one c d (e ∙ z) z x y) (λ u. ap gives (same_rank c d l (λ z. omega arith) e)) g)
      (cmp (rank d) 6))
      (λ g. one_first (late c (omega arith) x) (late d g y))
      (split (rank d) 9)

  -- a right outcome for the rows from rank k on
  abbrev Right : {A : Type 0} → ℕ → Outcome A → Type 0
  Right k (refused r) = (c : Cause) × (gives c ≡ r) × (k ≤ rank c) × Applies f a vs c × ((d : Cause) → k ≤ rank d → rank d < rank c → Applies f a vs d → ⊥)
  Right k (accepted x) = (d : Cause) → k ≤ rank d → Applies f a vs d → ⊥

  module _ {A : Type 0} where
    -- a test in front
    layer : (t : Bool) (c : Cause) (o : Outcome A) → rank c < 9 → rank c ≢ 6 → Means t (Applies f a vs c) → Right (suc (rank c)) o → Right (rank c) (unless t (gives c) o)
    layer false c o h g m i = (c, refl, omega arith, m.fails refl, λ d k l x. absurd (omega arith))
    layer true c (refused r) h g m i =
        (i.0, i.1, omega (arith, i.2), i.3, λ d k l x. ⊎_elim (λ u. absurd (omega arith)) (λ e. ⊎_elim (λ s. m.passes refl (subst (Applies f a vs) (same_rank d c h g s) x)) (λ u. i.4 d (omega arith) l x) e) (cmp (rank d) (rank c)))
    layer true c (accepted y) h g m i =
        λ d k x. ⊎_elim (λ u. absurd (omega arith)) (λ e. ⊎_elim (λ s. m.passes refl (subst (Applies f a vs) (same_rank d c h g s) x)) (λ u. i d (omega arith) x) e) (cmp (rank d) (rank c))

    -- the search in front
    search : (o : Outcome A) → Right 7 o → Right 6 (onward (searched a.inputs) (λ (t : Bool). o))
    search o i = go (searched a.inputs) refl o i
      where
        clean : {t : Bool} → searched a.inputs ≡ accepted t → (d : Cause) → rank d ≡ 6 → Applies f a vs d → ⊥
        clean e d g x = let p = of_search d g in no_bad a.inputs e (subst (Applies f a vs) p.2 x)

        go : (q : Outcome Bool) → searched a.inputs ≡ q → (o : Outcome A) → Right 7 o → Right 6 (onward q (λ (t : Bool). o))
        go (refused r) e o i = let w = search_words a.inputs r e in (Row.number w.0 w.1, sym w.2, omega arith, w.3, λ d k l x. absurd (omega arith))
        go (accepted t) e (refused r) i = (i.0, i.1, omega (arith, i.2), i.3, λ d k l x. ⊎_elim (λ u. absurd (omega arith)) (λ g. ⊎_elim (λ s. clean e d s x) (λ u. i.4 d (omega arith) l x) g) (cmp (rank d) 6))
        go (accepted t) e (accepted y) i = λ d k x. ⊎_elim (λ u. absurd (omega arith)) (λ g. ⊎_elim (λ s. clean e d s x) (λ u. i d (omega arith) x) g) (cmp (rank d) 6)

    steps_right : (o : Outcome A) → Ends vs o → Right 9 o
    steps_right (refused r) i = (met r, refl, omega arith, i, λ d g l x. absurd (omega arith))
    steps_right (accepted y) i = λ d g x. i (gives d) (late d g x)

    right : (o : Outcome A) → Ends vs o → Right 0 (guarded f a o)
    unfolding guarded
    right o i =
        layer a.fits stage _ (omega arith) (λ z. omega arith) (itself a.fits)
        (layer (every within a.sizes) size _ (omega arith) (λ z. omega arith) (some within OutOfRange ranged a.sizes)
        (layer (every long a.lent) short _ (omega arith) (λ z. omega arith) (some long Shorter lent_long a.lent)
        (layer a.formed form _ (omega arith) (λ z. omega arith) (itself a.formed)
        (layer (not a.stale) stale _ (omega arith) (λ z. omega arith) (turned a.stale)
        (layer (not a.fresh) fresh _ (omega arith) (λ z. omega arith) (turned a.fresh)
        (search _
        (layer (every is_plain a.plain) kind _ (omega arith) (λ z. omega arith) (some is_plain IsTurn is_turn a.plain)
        (layer (every (fit f) a.params) param _ (omega arith) (λ z. omega arith) (some (fit f) (Unfit f) (fitting f) a.params)
        (steps_right o i)))))))))

    due : (o : Outcome A) (r : Refusal) → Right 0 o → refusal o ≡ verdict r → Due f a vs r
    due (refused q) r i e = record { cause = i.0; gives_it = i.1 ∙ verdict_same e; applies = i.3; no_earlier = λ c l x. i.4 c (omega arith) l x }
    due (accepted y) r i e = absurd (omega (arith, number_above r, number_of e))

    due_given : (o : Outcome A) (r : Refusal) → Right 0 o → Due f a vs r → refusal o ≡ verdict r
    due_given (refused q) r i d =
        ⊎_elim (λ l. absurd (d.no_earlier i.0 l i.3))
        (λ g. ⊎_elim (λ e. ap verdict (sym i.1 ∙ one_row i.0 d.cause e i.3 d.applies ∙ d.gives_it)) (λ l. absurd (i.4 d.cause (omega arith) l d.applies)) g)
        (cmp (rank i.0) (rank d.cause))
    due_given (accepted y) r i d = absurd (i d.cause (omega arith) d.applies)

    free : (o : Outcome A) → Right 0 o → refusal o ≡ taken → (c : Cause) → Applies f a vs c → ⊥
    free (refused q) i e c x = omega (arith, number_above q, number_of e)
    free (accepted y) i e c x = i c (omega arith) x

    free_taken : (o : Outcome A) → Right 0 o → ((c : Cause) → Applies f a vs c → ⊥) → refusal o ≡ taken
    free_taken (refused q) i n = absurd (n i.0 i.3)
    free_taken (accepted y) i n = refl

    -- WHAT IS ASKED AND THE STEPS' OWN OUTCOME o COME TO r JUST WHERE r IS DUE,
    pub guarded_exactly : (o : Outcome A) → Ends vs o → (r : Refusal) → (refusal (guarded f a o) ≡ verdict r) ↔ Due f a vs r
    guarded_exactly o i r = (due (guarded f a o) r (right o i), due_given (guarded f a o) r (right o i))

    -- and are accepted just where no row applies
    pub guarded_taken : (o : Outcome A) → Ends vs o → (refusal (guarded f a o) ≡ taken) ↔ ((c : Cause) → Applies f a vs c → ⊥)
    guarded_taken o i = (free (guarded f a o) (right o i), free_taken (guarded f a o) (right o i))

-- ---- EXACTLY WHEN: every call, New, and point k of a list

pub stepped_told : (s : Filter) (o : Outcome Done) → (stepped s o).reply.refusal ≡ refusal o
stepped_told s (refused r) = refl
stepped_told s (accepted d) = refl

module _ (f : Format) where
  module _ (s : Filter) (c : Call) where
    pub step_told : (step f s c).reply.refusal ≡ refusal (outcome f (seen s) c)
    unfolding step
    step_told = stepped_told s (outcome f (seen s) c)

    pub exactly : (r : Refusal) → ((step f s c).reply.refusal ≡ verdict r) ↔ Due f (asks (seen s) c) (planned (plan f (seen s) c)) r
    exactly r = rw step_told (guarded_exactly f (asks (seen s) c) (planned (plan f (seen s) c)) (run (plan f (seen s) c)) (plan_ends (plan f (seen s) c)) r)

    pub taken_exactly : ((step f s c).reply.refusal ≡ taken) ↔ ((d : Cause) → Applies f (asks (seen s) c) (planned (plan f (seen s) c)) d → ⊥)
    taken_exactly = rw step_told (guarded_taken f (asks (seen s) c) (planned (plan f (seen s) c)) (run (plan f (seen s) c)) (plan_ends (plan f (seen s) c)))

  module _ (n : ℕ) (x p q : List Float) (params : Params) where
    pub new_exactly : (r : Refusal) → ((new_answer f n x p q params).refusal ≡ verdict r) ↔ Due f (new_asks n (from x p ∷ []) q params) [] r
    unfolding new_of
    new_exactly r = guarded_exactly f (new_asks n (from x p ∷ []) q params) [] (accepted _) no_first r

    pub new_taken : ((new_answer f n x p q params).refusal ≡ taken) ↔ ((c : Cause) → Applies f (new_asks n (from x p ∷ []) q params) [] c → ⊥)
    unfolding new_of
    new_taken = guarded_taken f (new_asks n (from x p ∷ []) q params) [] (accepted _) no_first

  -- and its parts
  pub new_track_exactly : (n : ℕ) (s : Start) (r : Refusal) → ((new_track f n s).refusal ≡ verdict r) ↔ Due f (start_asks n s) [] r
  unfolding new_track_of
  new_track_exactly n s r = guarded_exactly f (start_asks n s) [] (accepted _) no_first r

  pub new_track_taken : (n : ℕ) (s : Start) → ((new_track f n s).refusal ≡ taken) ↔ ((c : Cause) → Applies f (start_asks n s) [] c → ⊥)
  unfolding new_track_of
  new_track_taken n s = guarded_taken f (start_asks n s) [] (accepted _) no_first

  pub new_sheet_exactly : (n : ℕ) (q : List Float) (params : Params) (r : Refusal) → ((new_sheet f n q params).refusal ≡ verdict r) ↔ Due f (new_asks n [] q params) [] r
  unfolding new_sheet_of
  new_sheet_exactly n q params r = guarded_exactly f (new_asks n [] q params) [] (accepted _) no_first r

  pub new_sheet_taken : (n : ℕ) (q : List Float) (params : Params) → ((new_sheet f n q params).refusal ≡ taken) ↔ ((c : Cause) → Applies f (new_asks n [] q params) [] c → ⊥)
  unfolding new_sheet_of
  new_sheet_taken n q params = guarded_taken f (new_asks n [] q params) [] (accepted _) no_first

  module _ (l : List Float) (n k : ℕ) where
    pub point_exactly : (r : Refusal) → (point_refusal f l n k ≡ verdict r) ↔ Due f (point_asks f l n k) [] r
    unfolding point_refusal
    point_exactly r = guarded_exactly f (point_asks f l n k) [] (accepted _) no_first r

    pub point_taken : (point_refusal f l n k ≡ taken) ↔ ((c : Cause) → Applies f (point_asks f l n k) [] c → ⊥)
    unfolding point_refusal
    point_taken = guarded_taken f (point_asks f l n k) [] (accepted _) no_first

-- load: under three bytes 2, and then what is due of what it asks
short_first : {A : Type 0} (t : Bool) (n : ℕ) → leb 3 n ≡ t → (o : Outcome A) (r : Refusal) (D : Type 0) → ((refusal o ≡ verdict r) ↔ D) → (refusal (unless t SHORT o) ≡ verdict r) ↔ (((n < 3) × (r ≡ SHORT)) ⊎ ((3 ≤ n) × D))
short_first true n e o r D k = (λ z. inr (leb-true 3 n e, k.0 z), ⊎_elim (λ w. absurd (omega (arith, leb-true 3 n e, w.0))) (λ w. k.1 w.1))
short_first false n e o r D k = (λ z. inl (leb-false 3 n e, verdict_same (sym z)), ⊎_elim (λ w. ap verdict (sym w.1)) (λ w. absurd (omega (arith, leb-false 3 n e, w.0))))

short_taken : {A : Type 0} (t : Bool) (n : ℕ) → leb 3 n ≡ t → (o : Outcome A) (D : Type 0) → ((refusal o ≡ taken) ↔ D) → (refusal (unless t SHORT o) ≡ taken) ↔ ((3 ≤ n) × D)
short_taken true n e o D k = (λ z. (leb-true 3 n e, k.0 z), λ w. k.1 w.1)
short_taken false n e o D k = (λ z. absurd (omega (arith, number_of z)), λ w. absurd (omega (arith, leb-false 3 n e, w.0)))

module _ (f : Format) (b : List ℕ) where
  pub load_exactly : (r : Refusal) → ((load_answer f b).refusal ≡ verdict r) ↔ (((length b < 3) × (r ≡ SHORT)) ⊎ ((3 ≤ length b) × Due f (load_asks b) [] r))
  unfolding load_of
  load_exactly r = short_first (leb 3 (length b)) (length b) refl (guarded f (load_asks b) (accepted (filter_in b))) r _ (guarded_exactly f (load_asks b) [] (accepted (filter_in b)) no_first r)

  pub load_taken : ((load_answer f b).refusal ≡ taken) ↔ ((3 ≤ length b) × ((c : Cause) → Applies f (load_asks b) [] c → ⊥))
  unfolding load_of
  load_taken = short_taken (leb 3 (length b)) (length b) refl (guarded f (load_asks b) (accepted (filter_in b))) _ (guarded_taken f (load_asks b) [] (accepted (filter_in b)) no_first)

-- ---- the wrap that callers may use, and the check of a kind: 56, then 6

module _ {A : Type 0} (x : A) {Bad Unfit : Type 0} where
  -- an outcome of two tests
  two_tests : (t u : Bool) → Means t Bad → Means u Unfit → (r : Refusal)
      → (refusal (unless t bad_lone (unless u PARAM (accepted x))) ≡ verdict r) ↔ (((r ≡ bad_lone) × Bad) ⊎ ((r ≡ PARAM) × (Bad → ⊥) × Unfit))
  two_tests true true m n r =
      (λ e. absurd (omega (arith, number_above r, number_of e)), ⊎_elim (λ w. absurd (m.passes refl w.1)) (λ w. absurd (n.passes refl w.2)))
  two_tests true false m n r =
      (λ e. inr (verdict_same (sym e), λ b. m.passes refl b, n.fails refl), ⊎_elim (λ w. absurd (m.passes refl w.1)) (λ w. ap verdict (sym w.0)))
  two_tests false u m n r =
      (λ e. inl (verdict_same (sym e), m.fails refl), ⊎_elim (λ w. ap verdict (sym w.0)) (λ w. absurd (w.1 (m.fails refl))))

  two_taken : (t u : Bool) → Means t Bad → Means u Unfit → (refusal (unless t bad_lone (unless u PARAM (accepted x))) ≡ taken) ↔ ((Bad → ⊥) × (Unfit → ⊥))
  two_taken true true m n = (λ e. (λ b. m.passes refl b, λ b. n.passes refl b), λ w. refl)
  two_taken true false m n = (λ e. absurd (omega (arith, number_of e)), λ w. absurd (w.1 (n.fails refl)))
  two_taken false u m n = (λ e. absurd (omega (arith, number_of e)), λ w. absurd (w.0 (m.fails refl)))

module _ (f : Format) where
  module _ (d h : Float) where
    both_finite : Means (all_finite (d ∷ h ∷ [])) (NotFinite d ⊎ NotFinite h)
    both_finite = reworded (λ w. ⊎_elim (λ b. inl b) (λ s. inr (last s)) (parted w)) (⊎_elim (λ b. here b) (λ b. there (here b))) (all_finite_lem (d ∷ h ∷ []))
      where
        last : Some NotFinite (h ∷ []) → NotFinite h
        last s = ⊎_elim (λ b. b) (λ w. absurd (none w)) (parted s)

    -- the wrap is refused by 56 at 0 just where d or h isn't finite, by 6 just where both are and h isn't above 0 or 2h isn't finite, and by nothing else
    pub wrap_exactly : (r : Refusal)
        → (refusal (wrap_of f d h) ≡ verdict r) ↔ (((r ≡ bad_lone) × (NotFinite d ⊎ NotFinite h)) ⊎ ((r ≡ PARAM) × (NotFinite d ⊎ NotFinite h → ⊥) × (NotAbove h ⊎ NotFinite (add f h h))))
    unfolding wrap_of
    wrap_exactly r = two_tests (wrap_step f d h) (all_finite (d ∷ h ∷ [])) (half_turn f h) both_finite (half_turn_lem f h) r

    pub wrap_taken : (refusal (wrap_of f d h) ≡ taken) ↔ ((NotFinite d ⊎ NotFinite h → ⊥) × (NotAbove h ⊎ NotFinite (add f h h) → ⊥))
    unfolding wrap_of
    wrap_taken = two_taken (wrap_step f d h) (all_finite (d ∷ h ∷ [])) (half_turn f h) both_finite (half_turn_lem f h)

    -- what is shown of a refused wrap
    pub wrap_refused : (refusal (wrap_of f d h)).number ≢ 0 → shown (wrap_of f d h) ≡ plus_zero
    wrap_refused = go (wrap_of f d h)
      where
        go : (o : Outcome Float) → (refusal o).number ≢ 0 → shown o ≡ plus_zero
        go (refused r) n = refl
        go (accepted w) n = absurd (n refl)

  module _ (x : Float) where
    -- a root is refused by 56 at 0 just where x isn't finite or is below zero, and by nothing else
    pub root_exactly : (r : Refusal) → (refusal (root_outcome f x) ≡ verdict r) ↔ ((r ≡ bad_lone) × (NotFinite x ⊎ Below x))
    root_exactly r = go (rooted x) (rooted_means x)
      where
        go : (t : Bool) → Means t (NotFinite x ⊎ Below x) → (refusal (unless t bad_lone (accepted (root_of f x))) ≡ verdict r) ↔ ((r ≡ bad_lone) × (NotFinite x ⊎ Below x))
        go true m = ((λ e. absurd (omega (arith, number_above r, number_of e))), (λ k. absurd (m.passes refl k.1)))
        go false m = ((λ e. (verdict_same (sym e), m.fails refl)), (λ k. sym (ap verdict k.0)))

    pub root_taken : (refusal (root_outcome f x) ≡ taken) ↔ (NotFinite x ⊎ Below x → ⊥)
    root_taken = go (rooted x) (rooted_means x)
      where
        go : (t : Bool) → Means t (NotFinite x ⊎ Below x) → (refusal (unless t bad_lone (accepted (root_of f x))) ≡ taken) ↔ (NotFinite x ⊎ Below x → ⊥)
        go true m = (λ e b. m.passes refl b, λ n. refl)
        go false m = (λ e. absurd (omega (arith, number_of e)), λ n. absurd (n (m.fails refl)))

  module _ (k : Kind) where
    -- a kind is refused by 56 at 0 just where it is a turn by a number that isn't finite, by 6 just where it isn't that and doesn't pass, and by nothing else
    pub kind_exactly : (r : Refusal)
        → (refusal (kind_of f k) ≡ verdict r) ↔ (((r ≡ bad_lone) × BadTurn k) ⊎ ((r ≡ PARAM) × (BadTurn k → ⊥) × UnfitTurn f k))
    kind_exactly r = two_tests k (finite (half_of k)) (passes f k) (bad_turn k) (turn f k) r

    pub kind_taken : (refusal (kind_of f k) ≡ taken) ↔ ((BadTurn k → ⊥) × (UnfitTurn f k → ⊥))
    kind_taken = two_taken k (finite (half_of k)) (passes f k) (bad_turn k) (turn f k)

-- ---- a result or one of the refusals; and what is refused changes nothing and hands out nothing

pub one_of : {A : Type 0} (o : Outcome A) → (refusal o ≡ taken) ⊎ ((r : Refusal) × (refusal o ≡ verdict r))
one_of (refused r) = inr (r, refl)
one_of (accepted a) = inl refl

pub unchanged : (s : Filter) (o : Outcome Done) → (stepped s o).reply.refusal.number ≢ 0 → ((stepped s o).filter ≡ s) × ((stepped s o).reply.given ≡ []) × ((stepped s o).reply.stale ≡ true) × ((stepped s o).reply.bytes ≡ [])
unchanged s (refused r) h = (refl, refl, refl, refl)
unchanged s (accepted d) h = absurd (h refl)

module _ (f : Format) (s : Filter) (c : Call) where
  pub ends_so : ((step f s c).reply.refusal ≡ taken) ⊎ ((r : Refusal) × ((step f s c).reply.refusal ≡ verdict r))
  ends_so = rw (step_told f s c) (one_of (outcome f (seen s) c))

  -- a number that isn't 0 tells the refusal, but for its place
  pub as_refused : {k : ℕ} → 0 < k → (step f s c).reply.refusal.number ≡ k → (i : ℕ) × ((step f s c).reply.refusal ≡ verdict (named (record { number = k; place = i })))
  as_refused {k} h e =
      ⊎_elim
      (λ z. let y : 0 ≡ k = sym (number_of z) ∙ e in absurd (omega arith))
      (λ w. ((verdict w.0).place, w.1 ∙ ap verdict (by_number w.0 (sym (number_of w.1) ∙ e))))
      ends_so

  pub refused_nothing : (step f s c).reply.refusal.number ≢ 0 → ((step f s c).filter ≡ s) × ((step f s c).reply.given ≡ []) × ((step f s c).reply.stale ≡ true) × ((step f s c).reply.bytes ≡ [])
  unfolding step
  refused_nothing h = unchanged s (outcome f (seen s) c) h

  -- `over .. b` is what stands in a lent buffer b afterwards, of numbers or of bytes
  pub refused_unwritten : (step f s c).reply.refusal.number ≢ 0 → ((step f s c).filter ≡ s) × ((b : List Float) → over (step f s c).reply.given b ≡ b) × ((b : List ℕ) → over (step f s c).reply.bytes b ≡ b)
  refused_unwritten h = let n = refused_nothing h in (n.0, λ b. ap (λ (w : List Float). over w b) n.1, λ b. ap (λ (w : List ℕ). over w b) n.3)

  -- a refused reading of values answers +0, and stale
  pub refused_values : (step f s c).reply.refusal.number ≢ 0 → ((params_read (step f s c).reply).params ≡ record { alpha = plus_zero; beta = plus_zero; kappa = plus_zero }) × ((stale_read (step f s c).reply).stale ≡ true)
  refused_values h = let n = refused_nothing h in (ap params_of n.1, n.2)

-- ---- what is refused is the empty one

pub or_refused : {A : Type 0} (e : A) (o : Outcome A) → (refusal o).number ≢ 0 → or e o ≡ e
or_refused e (refused r) h = refl
or_refused e (accepted a) h = absurd (h refl)

-- a refused New gives the empty filter, and a refused part of one that of the empty filter
module _ (f : Format) (n : ℕ) where
  pub new_refused : (x p q : List Float) (params : Params) → (new_answer f n x p q params).refusal.number ≢ 0 → (new_answer f n x p q params).filter ≡ empty
  new_refused x p q params = or_refused empty (new_of f n x p q params)

  pub new_track_refused : (s : Start) → (new_track f n s).refusal.number ≢ 0 → (new_track f n s).track ≡ empty_track
  new_track_refused s = or_refused empty_track (new_track_of f n s)

  pub new_sheet_refused : (q : List Float) (params : Params) → (new_sheet f n q params).refusal.number ≢ 0 → (new_sheet f n q params).sheet ≡ empty_sheet
  new_sheet_refused q params = or_refused empty_sheet (new_sheet_of f n q params)

pub load_refused : (f : Format) (b : List ℕ) → (load_answer f b).refusal.number ≢ 0 → (load_answer f b).filter ≡ empty
load_refused f b = or_refused empty (load_of f b)

-- a refused point is an empty part
pub point_refused : (f : Format) (l : List Float) (n k : ℕ) → (point_refusal f l n k).number ≢ 0 → point_of f l n k ≡ []
unfolding point_refusal point_of
point_refused f l n k = or_refused [] (point_at f l n k)
