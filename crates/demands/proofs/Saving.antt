-- Save and load refused or taken, in the request's words; and what a save hands out. Assumes nothing.
use Prim.Native.Nat.{ℕ, zero, suc, ◌+◌, ◌*◌, ◌<◌, ◌≤◌}
use mathlib.Core.Path.{◌≡◌, refl, sym, ap, ◌∙◌, subst}
use mathlib.Core.Bool.{Bool, true, false, not, ◌&&◌}
use mathlib.Core.List.{List, [], ◌∷◌}
use mathlib.Core.Logic.{◌↔◌, ◌≢◌, inl, inr, ⊎_elim}
use native.Mathlib.Omega.{arith}
use borrow.Author.Tests.{eq-eqb, ne_eqb, eqb-true, eqb-false, leb-true, le-leb}
use lib.Dec.{eqb}
use lib.ListN.{length, take, drop, get_or}
use lib.Ieee.{Format}
use Rattle.floats.specs.declared.Refusal.TheVariants.{Fresh as FRESH, Record as RECORD}
use Rattle.floats.specs.Refusal.{verdict, taken}
use Rattle.floats.proofs.Refusals.{number, slice_above}
use Rattle.pieces.specs.Bytes.{word_of, read_each, all_true, formed}
use Rattle.filter.specs.Types.{Filter}
use Rattle.filter.specs.Asked.{within, long, every}
use Rattle.filter.specs.Filters.{seen}
use Rattle.filter.specs.Records.{bytes_of}
use Rattle.filter.specs.Calls.{Call, reading, save, asks}
use Rattle.filter.specs.Steps.{step}
use Rattle.filter.specs.Load.{states_in, is_record, load_asks, load_answer}
use Rattle.records.proofs.Loaded.{kinds_at}
use Rattle.demands.specs.Rows.{Some, OutOfRange, Shorter, Cause, stage, size, short, form, stale, fresh, kind, param, met, gives, Applies, rank, Due}
use Rattle.demands.specs.Rows as Row
use Rattle.demands.specs.Records.{BeforeFresh, BeforeRecord, IllFormed, NoRecord}
use Rattle.demands.proofs.Rows.{Means, two_ways, itself, either, fails_where, passes_where, none, some, ranged, lent_long}
use Rattle.demands.proofs.Passed.{both_true, pass, ran_finish}
use Rattle.demands.proofs.Exactly.{exactly, taken_exactly, load_exactly, no_first}
use Rattle.demands.proofs.Table.{Asked, by_row}
use Rattle.demands.proofs.Fine.{in_range_lem}
use Rattle.demands.proofs.Turned.{in_range_is}
use Rattle.demands.proofs.Accepted.{taken_step}

-- ---- 12, in words

equal : (a b : ℕ) → Means (eqb a b) (a ≢ b)
equal a b = record { fails = λ h. eqb-false a b h; passes = λ h n. n (eqb-true a b h) }

-- what bytes come to is zero where each of them is
zero_sum : (c w : ℕ) → eqb (c + 256 * w) 0 ≡ (eqb c 0 && eqb w 0)
zero_sum c w = go (eqb c 0) (eqb w 0) refl refl
  where
    go : (s t : Bool) → eqb c 0 ≡ s → eqb w 0 ≡ t → eqb (c + 256 * w) 0 ≡ (s && t)
    go true true d e = eq-eqb (c + 256 * w) 0 (omega (arith, eqb-true c 0 d, eqb-true w 0 e))
    go true false d e = ne_eqb (c + 256 * w) 0 (λ (h : c + 256 * w ≡ 0). eqb-false w 0 e (omega (arith, h)))
    go false t d e = ne_eqb (c + 256 * w) 0 (λ (h : c + 256 * w ≡ 0). eqb-false c 0 d (omega (arith, h)))

each_zero : (k : ℕ) (b : List ℕ) → every (λ (i : ℕ). eqb i 0) (take k b) ≡ eqb (word_of k b) 0
unfolding word_of
each_zero zero b = refl
each_zero (suc k) [] = refl
each_zero (suc k) (c ∷ b) = ap (λ (t : Bool). eqb c 0 && t) (each_zero k b) ∙ sym (zero_sum c (word_of k b))

no_zero : (k : ℕ) (b : List ℕ) → Means (eqb (word_of k b) 0) (Some (λ (i : ℕ). i ≢ 0) (take k b))
no_zero k b = subst (λ (t : Bool). Means t (Some (λ (i : ℕ). i ≢ 0) (take k b))) (each_zero k b) (some (λ (i : ℕ). eqb i 0) (λ (i : ℕ). i ≢ 0) (λ i. equal i 0) (take k b))

ill_formed : (c : List ℕ) → Means (formed c) (IllFormed c)
unfolding formed
ill_formed c = go (eqb (get_or c 0 0) 0) refl
  where
    go : (t : Bool) → eqb (get_or c 0 0) 0 ≡ t → Means (formed c) (IllFormed c)
    go true e = let z = eqb-true (get_or c 0 0) 0 e in let m = no_zero 8 (drop 1 c) in rw e (record { fails = λ h. inr (z, m.fails h); passes = λ h. ⊎_elim (λ w. w.0 z) (λ w. m.passes h w.1) })
    go false e = let n = eqb-false (get_or c 0 0) 0 e in rw e (record { fails = λ h. inl (n, eqb-false _ _ h); passes = λ h. ⊎_elim (λ w. w.1 (eqb-true _ _ h)) (λ w. n w.0) })

each_of : (t : List ℕ → Bool) (k : ℕ) (c : List ℕ) → every t (read_each 9 (λ (d : List ℕ). d) k c) ≡ all_true (read_each 9 t k c)
unfolding read_each
each_of t zero c = refl
each_of t (suc k) c = ap (λ (u : Bool). t c && u) (each_of t k (drop 9 c))

pub no_record : (b : List ℕ) → Means (is_record b) (NoRecord b)
no_record b =
    let l = read_each 9 (λ (c : List ℕ). c) (states_in b) (drop (27 + 8 * states_in b + 16 * (states_in b * states_in b)) b) in
    either (equal (get_or b 0 0) 87) (either (equal (get_or b 1 0) 80) (subst (λ (t : Bool). Means t (Some IllFormed l)) (each_of formed _ _ ∙ ap all_true (kinds_at b _ formed refl)) (some formed IllFormed ill_formed l)))

-- what of load is due as 12: its row applies, and none before it does
module _ (f : Format) (b : List ℕ) where
  abbrev Asked12 : Cause → Type 0
  Asked12 = Applies f (load_asks b) []

  before_record : 3 ≤ length b → ((d : Cause) → rank d < 3 → Asked12 d → ⊥) → BeforeRecord b
  before_record h w =
      let a = load_asks b in
      let sizes = pass within a.sizes (passes_where (some within OutOfRange ranged a.sizes) (w size (omega arith))) in
      let lent = pass long a.lent (passes_where (some long Shorter lent_long a.lent) (w short (omega arith))) in
      record { three = h; states = in_range_lem 1 8 (states_in b) sizes.0; whole = leb-true _ _ lent.0 }

  none_before_12 : BeforeRecord b → (d : Cause) → rank d < 3 → Asked12 d → ⊥
  none_before_12 h stage l x = two_ways refl x
  none_before_12 h size l x = (some within OutOfRange ranged (load_asks b).sizes).passes (both_true (in_range_is 1 8 (states_in b) h.states) refl) x
  none_before_12 h short l x = (some long Shorter lent_long (load_asks b).lent).passes (both_true (le-leb _ _ h.whole) refl) x
  none_before_12 h form l x = absurd (omega arith)
  none_before_12 h stale l x = absurd (omega arith)
  none_before_12 h fresh l x = absurd (omega arith)
  none_before_12 h (Row.number t i) l x = absurd (omega arith)
  none_before_12 h kind l x = absurd (omega arith)
  none_before_12 h param l x = absurd (omega arith)
  none_before_12 h (met r) l x = absurd (omega arith)

  due_12 : 3 ≤ length b → Due f (load_asks b) [] RECORD → BeforeRecord b × NoRecord b
  due_12 h w = go w.cause w.gives_it w.applies w.no_earlier
    where
      go : (d : Cause) → gives d ≡ RECORD → Asked12 d → ((c : Cause) → rank c < rank d → Asked12 c → ⊥) → BeforeRecord b × NoRecord b
      go stage e x n = absurd (omega (arith, ap number e))
      go size e x n = absurd (omega (arith, ap number e))
      go short e x n = absurd (omega (arith, ap number e))
      go form e x n = (before_record h n, (no_record b).fails x)
      go stale e x n = absurd (omega (arith, ap number e))
      go fresh e x n = absurd (omega (arith, ap number e))
      go (Row.number t i) e x n = absurd (omega (arith, ap number e, slice_above t))
      go kind e x n = absurd (omega (arith, ap number e))
      go param e x n = absurd (omega (arith, ap number e))
      go (met r) e x n = absurd (no_first r x)

  -- 12 exactly when nothing comes before it and the bytes are no record
  pub record_exactly : ((load_answer f b).refusal ≡ verdict RECORD) ↔ (BeforeRecord b × NoRecord b)
  record_exactly = (
    λ e. ⊎_elim (λ w. absurd (omega (arith, ap number w.1))) (λ w. due_12 w.0 w.1) ((load_exactly f b RECORD).0 e),
    λ h. (load_exactly f b RECORD).1 (inr (h.0.three, record { cause = form; gives_it = refl; applies = fails_where (no_record b) h.1; no_earlier = none_before_12 h.0 })),
  )

-- ---- save

module _ (f : Format) (s : Filter) (b : List ℕ) where
  abbrev call : Call
  call = reading (save b)

  -- what is passed before 11, and what that leaves for the rows before it
  saveable : ((d : Cause) → rank d < 5 → Asked f s call d → ⊥) → BeforeFresh s b
  saveable w =
      let a = asks (seen s) call in
      let sizes = pass within a.sizes (passes_where (some within OutOfRange ranged a.sizes) (w size (omega arith))) in
      let lent = pass long a.lent (passes_where (some long Shorter lent_long a.lent) (w short (omega arith))) in
      record { shut = passes_where (itself a.fits) (w stage (omega arith)); states = in_range_lem 1 8 s.sheet.n sizes.0; room = leb-true _ _ lent.0 }

  none_before : BeforeFresh s b → (d : Cause) → rank d < 5 → Asked f s call d → ⊥
  none_before h stage l x = two_ways h.shut x
  none_before h size l x = (some within OutOfRange ranged (asks (seen s) call).sizes).passes (both_true (in_range_is 1 8 s.sheet.n h.states) refl) x
  none_before h short l x = (some long Shorter lent_long (asks (seen s) call).lent).passes (both_true (le-leb _ _ h.room) refl) x
  none_before h form l x = two_ways refl x
  none_before h stale l x = two_ways x refl
  none_before h fresh l x = absurd (omega arith)
  none_before h (Row.number t i) l x = absurd (omega arith)
  none_before h kind l x = absurd (omega arith)
  none_before h param l x = absurd (omega arith)
  none_before h (met r) l x = absurd (omega arith)

  -- 11 exactly when nothing comes before it and the filter isn't stale
  pub fresh_exactly : ((step f s call).reply.refusal ≡ verdict FRESH) ↔ (BeforeFresh s b × (s.track.stale ≡ false))
  fresh_exactly = (
    λ e. let w = by_row f s call FRESH (λ n. n) e in (saveable (λ d l x. w.1 d l x), turned_true s.track.stale w.0),
    λ h. (exactly f s call FRESH).1 (record { cause = fresh; gives_it = refl; applies = ap not h.1; no_earlier = none_before h.0 }),
  )
    where
      turned_true : (t : Bool) → not t ≡ true → t ≡ false
      turned_true true h = sym h
      turned_true false h = refl

  -- taken exactly when it is stale
  pub saved_exactly : ((step f s call).reply.refusal ≡ taken) ↔ (BeforeFresh s b × (s.track.stale ≡ true))
  saved_exactly = (
    λ e. let w = (taken_exactly f s call).0 e in (saveable (λ d l x. w d x), still s.track.stale (w fresh)),
    λ h. (taken_exactly f s call).1 (no_row h),
  )
    where
      still : (t : Bool) → (not t ≡ true → ⊥) → t ≡ true
      still true n = refl
      still false n = absurd (n refl)

      no_row : BeforeFresh s b × (s.track.stale ≡ true) → (d : Cause) → Asked f s call d → ⊥
      no_row h stage x = none_before h.0 stage (omega arith) x
      no_row h size x = none_before h.0 size (omega arith) x
      no_row h short x = none_before h.0 short (omega arith) x
      no_row h form x = none_before h.0 form (omega arith) x
      no_row h stale x = none_before h.0 stale (omega arith) x
      no_row h fresh x = two_ways x (ap not h.1)
      no_row h (Row.number t i) x = elim x [ ]
      no_row h kind x = none x
      no_row h param x = none x
      no_row h (met r) x = no_first r x

  -- then it hands out the record and changes nothing
  pub saved_as : (step f s call).reply.refusal.number ≡ 0 → step f s call ≡ record { filter = s; reply = record { refusal = taken; given = []; stale = true; bytes = bytes_of s } }
  unfolding bytes_of
  saved_as z = taken_step f s call _ (ran_finish _ _ refl) z
