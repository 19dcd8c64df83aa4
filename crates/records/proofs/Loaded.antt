-- A record that is read: the parts of the filter in it, the order of its refusals, and load in two parts. Assumes nothing.
use Prim.Native.Nat.{ℕ, ◌+◌, ◌*◌, ◌≤◌, ◌<◌}
use mathlib.Core.Path.{◌≡◌, refl, sym, ap, ap₂, ◌∙◌}
use mathlib.Core.Bool.{Bool, true, false, cond, ◌&&◌}
use mathlib.Core.Logic.{◌≢◌}
use mathlib.Core.List.{List, [], ◌∷◌, ◌++◌}
use native.Mathlib.Omega.{arith}
use borrow.Author.Tests.{leb-true, le-leb, lt-leb, eq-eqb, ne_eqb}
use lib.Dec.{leb, eqb}
use lib.ListN.{length, take, drop, replicate, get_or}
use lib.Seq.{take_at, drop_at, drop-drop}
use lib.Ieee.{Float, Format}
use Rattle.floats.specs.declared.Verdict.{Verdict}
use Rattle.floats.specs.declared.Refusal.TheVariants.{Record as RECORD, Short as SHORT}
use Rattle.floats.specs.Refusal.{verdict, earlier, Outcome, refused, accepted, refusal, unless, onward, nothing}
use Rattle.floats.specs.Search.{Input, searched}
use Rattle.floats.specs.Numbers.{zeros}
use Rattle.floats.specs.Fronts.{over}
use Rattle.floats.proofs.Refusals.{gave_zero, gave_number, passed}
use Rattle.floats.proofs.Search.{Found}
use Rattle.angles.specs.Kinds.{plain}
use Rattle.angles.specs.Kinds.{Kind}
use Rattle.pieces.specs.Bytes.{number_at, kind_at, formed, read_each, all_true}
use Rattle.pieces.proofs.Laws.{length_read, read_add}
use Rattle.sigma.specs.Weights.{Params}
use Rattle.filter.specs.Types.{Filter}
use Rattle.filter.specs.Types.{Answer}
use Rattle.filter.specs.Asked.{Param, by_params, in_range, within, long, fit, every, in_order, guarded}
use Rattle.filter.specs.Filters.{sheet, filter}
use Rattle.filter.specs.Records.{numbers, record_length}
use Rattle.filter.specs.Calls.{as_kinds}
use Rattle.filter.specs.New.{fresh_track, refused_answer, answer_of, from, inputs_for}
use Rattle.filter.specs.Load.{filter_of, turn_inputs, states_in, numbers_in, each_kind, filter_in, is_record, load_asks, load_of, load_answer}
use Rattle.filter.proofs.Sizes.{and_true, range_le}
use Rattle.filter.proofs.Order.{found_in_turn}
use Rattle.records.specs.Parts.{form_of, judged, contents_of}

-- ---- the parts of a filter from the parts of its list of numbers

pub filter_of_lem : (n : ℕ) (x p q : List Float) (a b c : Float) (kinds : List Kind) → length x ≡ n → length p ≡ n * n → length q ≡ n * n
    → filter_of n (x ++ (p ++ (q ++ (a ∷ b ∷ c ∷ [])))) kinds
    ≡ filter (sheet n (over q (zeros 64)) (record { alpha = a; beta = b; kappa = c }) (over kinds (replicate 8 plain))) (fresh_track (over x (zeros 8)) (over p (zeros 64)))
filter_of_lem n x p q a b c kinds hx hp hq =
    let v = a ∷ b ∷ c ∷ [] in
    rw (take_at x (p ++ (q ++ v)) n hx, drop_at x (p ++ (q ++ v)) n hx, take_at p (q ++ v) (n * n) hp, drop_at p (q ++ v) (n * n) hp, take_at q v (n * n) hq, drop_at q v (n * n) hq)

-- the numbers from place at on: the first i, and those after them
split : (b : List ℕ) (at i j : ℕ) → read_each 8 number_at (i + j) (drop at b) ≡ read_each 8 number_at i (drop at b) ++ read_each 8 number_at j (drop (at + 8 * i) b)
split b at i j = read_add 8 number_at i j (drop at b) ∙ ap (λ (c : List ℕ). read_each 8 number_at i (drop at b) ++ read_each 8 number_at j c) (drop-drop (8 * i) at b)

three : (b : List ℕ) (at : ℕ) → read_each 8 number_at 3 (drop at b) ≡ number_at (drop at b) ∷ number_at (drop (at + 8) b) ∷ number_at (drop (at + 16) b) ∷ []
unfolding read_each
three b at =
    let e : at + 8 + 8 ≡ at + 16 = omega arith in
    let one = drop-drop 8 at b in
    let two = ap (drop 8) one ∙ drop-drop 8 (at + 8) b ∙ ap (λ (i : ℕ). drop i b) e in
    ap₂ (λ (c d : List ℕ). number_at (drop at b) ∷ number_at c ∷ number_at d ∷ []) one two

same_params : {a b k x y z : Float} → a ≡ x → b ≡ y → k ≡ z → ◌≡◌ {A = Params} (record { alpha = a; beta = b; kappa = k }) (record { alpha = x; beta = y; kappa = z })
same_params p q r = rw (p, q, r)

module _ (b : List ℕ) where
  -- ---- where they stand in the bytes

  abbrev pub x_in : List Float
  x_in = read_each 8 number_at (states_in b) (drop 3 b)

  abbrev pub p_in : List Float
  p_in = read_each 8 number_at (states_in b * states_in b) (drop (3 + 8 * states_in b) b)

  abbrev pub q_in : List Float
  q_in = read_each 8 number_at (states_in b * states_in b) (drop (3 + 8 * states_in b + 8 * (states_in b * states_in b)) b)

  abbrev pub param : ℕ → Float
  param i = number_at (drop (i + 8 * states_in b + 16 * (states_in b * states_in b)) b)

  pub numbers_are : numbers_in b ≡ x_in ++ (p_in ++ (q_in ++ (param 3 ∷ param 11 ∷ param 19 ∷ [])))
  numbers_are =
      let n = states_in b in
      let k = n * n in
      let e : 3 + 8 * n + 8 * k + 8 * k ≡ 3 + 8 * n + 16 * k = omega arith in
      let e₁ : 3 + 8 * n + 8 * k + 8 * k + 8 ≡ 11 + 8 * n + 16 * k = omega arith in
      let e₂ : 3 + 8 * n + 8 * k + 8 * k + 16 ≡ 19 + 8 * n + 16 * k = omega arith in
      split b 3 n (k + (k + 3))
      ∙ ap (λ (l : List Float). x_in ++ l)
      (split b (3 + 8 * n) k (k + 3)
      ∙ ap (λ (l : List Float). p_in ++ l)
      (split b (3 + 8 * n + 8 * k) k 3
      ∙ ap (λ (l : List Float). q_in ++ l)
      (three b (3 + 8 * n + 8 * k + 8 * k)
      ∙ ap (λ (i : ℕ). number_at (drop i b) ∷ number_at (drop (3 + 8 * n + 8 * k + 8 * k + 8) b) ∷ number_at (drop (3 + 8 * n + 8 * k + 8 * k + 16) b) ∷ []) e
      ∙ ap₂ (λ (i j : ℕ). param 3 ∷ number_at (drop i b) ∷ number_at (drop j b) ∷ []) e₁ e₂)))

  pub kinds_at : (at : ℕ) {A : Type 0} (from : List ℕ → A) → at ≡ 27 + 8 * states_in b + 16 * (states_in b * states_in b) → read_each 9 from (states_in b) (drop at b) ≡ each_kind b from
  kinds_at at from h =
      let e : at ≡ 3 + 8 * numbers (states_in b) = omega arith in
      ap (λ (i : ℕ). read_each 9 from (states_in b) (drop i b)) e

  -- the parts of the filter, read one by one
  pub record Parts (x p q : List Float) (params : Params) (kinds : List Kind) : Type 0 where
    pub x_read : x ≡ over x_in (zeros 8)
    pub p_read : p ≡ over p_in (zeros 64)
    pub q_read : q ≡ over q_in (zeros 64)
    pub params_read_lem : params ≡ record { alpha = param 3; beta = param 11; kappa = param 19 }
    pub kinds_read : kinds ≡ over (each_kind b kind_at) (replicate 8 plain)

  -- as the code reads them
  pub parts_of : {x p q : List Float} {α β κ : Float} {kinds : List Kind} → x ≡ over x_in (zeros 8) → p ≡ over p_in (zeros 64) → q ≡ over q_in (zeros 64)
      → α ≡ param 3 → β ≡ param 11 → κ ≡ param 19
      → kinds ≡ over (read_each 9 kind_at (states_in b) (drop (27 + 8 * states_in b + 16 * (states_in b * states_in b)) b)) (replicate 8 plain)
      → Parts x p q (record { alpha = α; beta = β; kappa = κ }) kinds
  parts_of x p q a b' k e = record {
    x_read = x;
    p_read = p;
    q_read = q;
    params_read_lem = same_params a b' k;
    kinds_read = e ∙ ap (λ (l : List Kind). over l (replicate 8 plain)) (kinds_at (27 + 8 * states_in b + 16 * (states_in b * states_in b)) kind_at refl);
  }

  module _ {x p q : List Float} {params : Params} {kinds : List Kind} (r : Parts x p q params kinds) where
    pub parts_filter : filter (sheet (states_in b) q params kinds) (fresh_track x p) ≡ filter_in b
    parts_filter =
        rw (r.x_read, r.p_read, r.q_read, r.params_read_lem, r.kinds_read)
        (sym (ap (λ (v : List Float). filter_of (states_in b) v (each_kind b kind_at)) numbers_are
        ∙ filter_of_lem (states_in b) x_in p_in q_in (param 3) (param 11) (param 19) (each_kind b kind_at) (length_read 8 number_at _ _) (length_read 8 number_at _ _) (length_read 8 number_at _ _)))

    pub parts_kinds : take (states_in b) kinds ≡ each_kind b kind_at
    parts_kinds = ap (take (states_in b)) r.kinds_read ∙ take_at (each_kind b kind_at) _ (states_in b) (length_read 9 kind_at _ _)

    -- so what their tests come to is what load's come to
    pub parts_judged : (f : Format)
        → refusal (judged f (inputs_for (states_in b) (from x p ∷ []) q params ++ turn_inputs (take (states_in b) kinds)) (by_params (states_in b) params ∷ as_kinds (take (states_in b) kinds)))
        ≡ refusal (judged f (load_asks b).inputs (load_asks b).params)
    parts_judged f =
        ap₂ (λ (s : Filter) (ks : List Kind). refusal (judged f (inputs_for (states_in b) (from s.track.x s.track.p ∷ []) s.sheet.q s.sheet.params ++ turn_inputs ks) (by_params (states_in b) s.sheet.params ∷ as_kinds ks)))
        parts_filter parts_kinds

  -- ---- the form: each refusal where those before it do not apply

  pub under_three : length b < 3 → verdict SHORT ≡ refusal (form_of b)
  unfolding form_of
  under_three h = rw (lt-leb 3 (length b) h)

  module _ (h : 3 ≤ length b) where
    pub bad_states : in_range 1 8 (states_in b) ≡ false → record { number = 1; place = 0 } ≡ refusal (form_of b)
    unfolding form_of in_order
    bad_states k = rw (le-leb 3 (length b) h, k)

    module _ (k : in_range 1 8 (states_in b) ≡ true) where
      pub cut_short : length b < record_length (states_in b) → verdict SHORT ≡ refusal (form_of b)
      unfolding form_of in_order
      cut_short l = rw (le-leb 3 (length b) h, k, lt-leb (record_length (states_in b)) (length b) l)

      pub by_form : (t : Bool) → record_length (states_in b) ≤ length b → is_record b ≡ t → refusal (unless t RECORD nothing) ≡ refusal (form_of b)
      unfolding form_of in_order
      by_form t l m = rw (le-leb 3 (length b) h, k, le-leb (record_length (states_in b)) (length b) l, m)

  -- how long it has to be, as the code asks it
  pub long_enough : in_range 1 8 (states_in b) ≡ true → {r : ℕ} → r ≡ cond (leb (states_in b) 8) (record_length (states_in b)) 0 → r ≡ record_length (states_in b)
  long_enough k e = e ∙ rw (le-leb _ _ (range_le 1 8 _ k))

  -- ---- whether it is a record: its two bytes, then its kinds

  pub first_off : (get_or b 0 0 ≡ 87 → ⊥) → is_record b ≡ false
  first_off h = ap (λ (t : Bool). t && (eqb (get_or b 1 0) 80 && all_true (each_kind b formed))) (ne_eqb _ _ h)

  pub second_off : get_or b 0 0 ≡ 87 → (get_or b 1 0 ≡ 80 → ⊥) → is_record b ≡ false
  second_off g h = ap₂ (λ (s t : Bool). s && (t && all_true (each_kind b formed))) (eq-eqb _ _ g) (ne_eqb _ _ h)

  pub kinds_decide : {t : Bool} → get_or b 0 0 ≡ 87 → get_or b 1 0 ≡ 80 → all_true (read_each 9 formed (states_in b) (drop (27 + 8 * states_in b + 16 * (states_in b * states_in b)) b)) ≡ t → is_record b ≡ t
  kinds_decide g h e =
      ap₂ (λ (s t : Bool). s && (t && all_true (each_kind b formed))) (eq-eqb _ _ g) (eq-eqb _ _ h)
      ∙ ap all_true (sym (kinds_at (27 + 8 * states_in b + 16 * (states_in b * states_in b)) formed refl)) ∙ e

  -- what a record that has the form is
  pub record Formed : Type 0 where
    pub three : 3 ≤ length b
    pub sized : in_range 1 8 (states_in b) ≡ true
    pub whole : record_length (states_in b) ≤ length b
    pub is : is_record b ≡ true

  formed_is : (t : Bool) → form_of b ≡ accepted t → Formed
  unfolding form_of in_order
  formed_is t e =
      let p = passed _ SHORT _ t e in
      let q = passed _ _ _ t p.1 in
      let r = passed _ _ _ t q.1 in
      let s = passed _ RECORD _ t r.1 in
      record { three = leb-true _ _ p.0; sized = sym (and_true _) ∙ q.0; whole = leb-true _ _ (sym (and_true _) ∙ r.0); is = s.0 }

  pub has_form : (refusal (form_of b)).number ≡ 0 → Formed
  has_form h = formed_is _ (gave_zero (form_of b) true h)

-- ---- load in two parts

two_parts : {A : Type 0} (s l m : Bool) (o : Outcome Bool) (p : Bool) (x : A) → in_order true s l m false false o true p (accepted x) ≡ onward (in_order true s l m false false nothing true true nothing) (λ (t : Bool). onward (in_order true true true true false false o true p nothing) (λ (u : Bool). accepted x))
unfolding in_order
two_parts false l m o p x = refl
two_parts true false m o p x = refl
two_parts true true false o p x = refl
two_parts true true true (refused r) p x = refl
two_parts true true true (accepted t) false x = refl
two_parts true true true (accepted t) true x = refl

from_three : {A : Type 0} (t : Bool) (p : Outcome Bool) (c : Outcome A) {o : Outcome A} → o ≡ onward p (λ (u : Bool). c) → unless t SHORT o ≡ onward (unless t SHORT p) (λ (u : Bool). c)
from_three true p c e = e
from_three false p c e = refl

module _ (f : Format) (b : List ℕ) where
  pub in_two_parts : load_of f b ≡ onward (form_of b) (λ (t : Bool). contents_of f b)
  unfolding load_of guarded form_of contents_of judged
  in_two_parts =
      from_three (leb 3 (length b)) (in_order true (every within (load_asks b).sizes) (every long (load_asks b).lent) (is_record b) false false nothing true true nothing) (contents_of f b)
      (two_parts (every within (load_asks b).sizes) (every long (load_asks b).lent) (is_record b) (searched (load_asks b).inputs) (every (fit f) (load_asks b).params) (filter_in b))

  pub no_form : (refusal (form_of b)).number ≢ 0 → refused_answer (refusal (form_of b)) ≡ load_answer f b
  no_form h = let g = gave_number (form_of b) h in ap refused_answer g.2 ∙ ap answer_of (sym (in_two_parts ∙ ap (λ (o : Outcome Bool). onward o (λ (t : Bool). contents_of f b)) g.1))

  pub its_contents : (refusal (form_of b)).number ≡ 0 → answer_of (contents_of f b) ≡ load_answer f b
  its_contents h = ap answer_of (sym (in_two_parts ∙ ap (λ (o : Outcome Bool). onward o (λ (t : Bool). contents_of f b)) (gave_zero (form_of b) true h)))

-- what the code's tests of what stands there tell
pub judged_so : (f : Format) (inputs : List Input) (params : List Param) {found r : Verdict} {pass : Bool}
    → r ≡ earlier (refusal (in_order true true true true false false nothing true true nothing)) (earlier found (refusal (in_order true true true true false false nothing true pass nothing)))
    → Found inputs found → pass ≡ every (fit f) params → r ≡ refusal (judged f inputs params)
unfolding judged
judged_so f inputs params {pass = pass} e d h = found_in_turn true true true true false false (searched inputs) true pass e d.is ∙ ap (λ (t : Bool). refusal (in_order true true true true false false (searched inputs) true t nothing)) h

-- what stands in a record, by what its tests o come to
module _ (o : Outcome Bool) (s : Filter) where
  abbrev told : Answer
  told = answer_of (onward o (λ (t : Bool). accepted s))

  pub judged_off : (refusal o).number ≢ 0 → refused_answer (refusal o) ≡ told
  judged_off h = let g = gave_number o h in ap refused_answer g.2 ∙ ap (λ (p : Outcome Bool). answer_of (onward p (λ (t : Bool). accepted s))) (sym g.1)

  pub judged_on : (refusal o).number ≡ 0 → record { filter = s; refusal = refusal o } ≡ told
  judged_on h = let g = gave_zero o true h in ap (λ (p : Outcome Bool). record { filter = s; refusal = refusal p }) g ∙ ap (λ (p : Outcome Bool). answer_of (onward p (λ (t : Bool). accepted s))) (sym g)
