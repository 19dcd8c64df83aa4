-- A filter saved and then read, and a record read and then saved: the same filter but for what is left over, and the same bytes. Assumes nothing.
use Prim.Native.Nat.{ℕ, zero, suc, ◌+◌, ◌-◌, ◌*◌, ◌/◌, ◌%◌, ◌≤◌, ◌<◌}
use mathlib.Core.Path.{◌≡◌, refl, sym, ap, ap₂, ◌∙◌, subst}
use mathlib.Core.Bool.{Bool, true, false, ◌&&◌, cond}
use mathlib.Core.List.{List, [], ◌∷◌, ◌++◌, append_assoc}
use native.Mathlib.Omega.{arith}
use borrow.Author.Tests.{le-leb, leb-true, eqb-true}
use lib.Dec.{leb, eqb}
use lib.ListN.{length, take, drop, get_or, replicate, length-append, length-drop, take-append-drop}
use lib.Seq.{length-take-le, take_at, drop_at, take-add, drop-drop, get_or-drop}
use lib.Ieee.{Float, Format, binary64, fits, to_bits}
use lib.Ieee.Bits.{of_bits-fits, is_true}
use lib.Ieee.Scale.{finite}
use Rattle.floats.specs.declared.Refusal.TheVariants.{Short as SHORT}
use Rattle.floats.specs.Refusal.{Outcome, accepted, or}
use Rattle.floats.specs.Numbers.{plus_zero, zeros, all_finite}
use Rattle.floats.specs.Fronts.{over}
use Rattle.floats.proofs.Refusals.{passed, refused_never}
use Rattle.angles.specs.Kinds.{plain, half_of}
use Rattle.angles.specs.declared.Kind.TheVariants.{Plain, Turn}
use Rattle.angles.specs.Kinds.{Kind}
use Rattle.pieces.specs.Bytes.{AreBytes, little_endian, word_of, written, read_each, all_true, number_bytes, number_at, kind_bytes, kind_at, formed, kind_fits}
use Rattle.pieces.proofs.Laws.{bytes_drop, length_read, length_written, read_written, read_all, written_read}
use Rattle.pieces.proofs.Back.{length_number, length_kind, number_back, number_again, kind_back, kind_formed, sound, kind_again, each_finite}
use Rattle.filter.specs.Types.{Filter}
use Rattle.filter.specs.Asked.{by_params, by_kind, in_range, fit, every, guarded}
use Rattle.filter.specs.Records.{numbers_of, bytes_of, numbers, record_length}
use Rattle.filter.specs.Calls.{halves, as_kinds, values_of}
use Rattle.filter.specs.New.{from, inputs_for}
use Rattle.filter.specs.Load.{filter_of, turn_inputs, states_in, numbers_in, each_kind, filter_in, load_asks, load_of}
use Rattle.filter.proofs.Sizes.{and_left, and_right, every_append, square_le}
use Rattle.filter.proofs.KindTests.{halves_take}
use Rattle.records.proofs.Loaded.{filter_of_lem, x_in, p_in, q_in, param, numbers_are}
use Rattle.demands.specs.Sound.{Filled, Sound}
use Rattle.demands.specs.Records.{Storable, refreshed}
use Rattle.demands.proofs.Passed.{Pass, finite_in, Passed, by_cases}
use Rattle.demands.proofs.Places.{passes}
use Rattle.demands.proofs.Arrays.{all_both, all_front, drop_same}

-- ---- fronts of arrays

-- what was in use, over unused places, is the array
refilled : {A : Type 0} (k m : ℕ) (l : List A) (a : A) → k ≤ length l → drop k l ≡ replicate (m - k) a → over (take k l) (replicate m a) ≡ l
refilled k m l a h e =
    ap (λ (j : ℕ). take k l ++ drop j (replicate m a)) (length-take-le k l h) ∙ ap (λ (r : List _). take k l ++ r) (drop_same k m a ∙ sym e) ∙ take-append-drop k l

filled_again : {k m : ℕ} {l : List Float} → k ≤ m → Filled k m l → over (take k l) (zeros m) ≡ l
unfolding zeros
filled_again {k} {m} {l} h f = refilled k m l plus_zero (omega (arith, f.long)) f.unused

all_plain : (l : List Kind) → ((i : ℕ) → get_or l i plain ≡ plain) → l ≡ replicate (length l) plain
all_plain [] h = refl
all_plain (k ∷ l) h = ap₂ ◌∷◌ (h 0) (all_plain l (λ i. h (suc i)))

plain_behind : (n : ℕ) (l : List Kind) → length l ≡ 8 → n ≤ 8 → ((i : ℕ) → n ≤ i → get_or l i plain ≡ plain) → drop n l ≡ replicate (8 - n) plain
plain_behind n l e s h =
    let k : length (drop n l) ≡ 8 - n = length-drop n l ∙ ap (λ (j : ℕ). j - n) e in
    all_plain (drop n l) (λ i. get_or-drop n l i plain ∙ h (n + i) (omega arith)) ∙ ap (λ (j : ℕ). replicate j plain) k

-- ---- the first n kinds pass what all eight do

turns_pass : (l : List Kind) → all_finite (halves l) ≡ true → Pass finite_in (turn_inputs l)
unfolding all_finite
turns_pass [] h = tt
turns_pass (k ∷ l) h = (ap (λ (t : Bool). t && true) (and_left (finite (half_of k)) _ h), turns_pass l (and_right (finite (half_of k)) _ h))

fitting_kinds : (f : Format) (n : ℕ) (l : List Kind) → every (fit f) (as_kinds l) ≡ true → every (fit f) (as_kinds (take n l)) ≡ true
fitting_kinds f zero l h = refl
fitting_kinds f (suc n) [] h = refl
fitting_kinds f (suc n) (k ∷ l) h =
    let t = fit f (by_kind k) in
    ap₂ (λ (a b : Bool). a && b) (and_left t (every (fit f) (as_kinds l)) h) (fitting_kinds f n l (and_right t (every (fit f) (as_kinds l)) h))

-- ---- lists that pass a test

pub every_front : {A : Type 0} (t : A → Bool) (k : ℕ) (l : List A) → every t l ≡ true → every t (take k l) ≡ true
every_front t k l h = and_left (every t (take k l)) _ (sym (every_append t (take k l) (drop k l)) ∙ ap (every t) (take-append-drop k l) ∙ h)

pub every_back : {A : Type 0} (t : A → Bool) (k : ℕ) (l : List A) → every t l ≡ true → every t (drop k l) ≡ true
every_back t k l h = and_right (every t (take k l)) _ (sym (every_append t (take k l) (drop k l)) ∙ ap (every t) (take-append-drop k l) ∙ h)

pub every_both : {A : Type 0} (t : A → Bool) (l r : List A) → every t l ≡ true → every t r ≡ true → every t (l ++ r) ≡ true
every_both t l r h k = every_append t l r ∙ ap₂ (λ (a b : Bool). a && b) h k

-- from three bytes on load is what is asked of a record
pub past_three : (f : Format) (b : List ℕ) → 3 ≤ length b → load_of f b ≡ guarded f (load_asks b) (accepted (filter_in b))
unfolding load_of
past_three f b h = rw (le-leb 3 (length b) h)

-- ---- SAVED, THEN READ

module _ (f : Format) (s : Filter) (h : Sound f s) where
  abbrev n : ℕ
  n = s.sheet.n

  abbrev kinds : List Kind
  kinds = take n s.sheet.kinds

  square : n * n ≤ 64
  square = square_le n h.small

  length_x : length (take n s.track.x) ≡ n
  length_x = length-take-le n s.track.x (omega (arith, h.x.long, h.small))

  length_p : length (take (n * n) s.track.p) ≡ n * n
  length_p = length-take-le (n * n) s.track.p (omega (arith, h.p.long, square))

  length_q : length (take (n * n) s.sheet.q) ≡ n * n
  length_q = length-take-le (n * n) s.sheet.q (omega (arith, h.q.long, square))

  length_kinds : length kinds ≡ n
  length_kinds = length-take-le n s.sheet.kinds (omega (arith, h.eight, h.small))

  length_all : length (numbers_of s) ≡ numbers n
  length_all =
      let x = take n s.track.x in
      let p = take (n * n) s.track.p in
      let q = take (n * n) s.sheet.q in
      let v = values_of s.sheet.params in
      omega (arith, length-append x (p ++ (q ++ v)), length-append p (q ++ v), length-append q v, length_x, length_p, length_q)

  length_numbers : length (written number_bytes (numbers_of s)) ≡ 8 * numbers n
  length_numbers = length_written 8 number_bytes number_at length_number (numbers_of s) ∙ ap (λ (k : ℕ). 8 * k) length_all

  length_turns : length (written kind_bytes kinds) ≡ 9 * n
  length_turns = length_written 9 kind_bytes kind_at length_kind kinds ∙ ap (λ (k : ℕ). 9 * k) length_kinds

  -- the record is as long as the request says
  pub record_long : length (bytes_of s) ≡ record_length n
  unfolding bytes_of
  record_long = omega (arith, length-append (written number_bytes (numbers_of s)) (written kind_bytes kinds), length_numbers, length_turns)

  restored : filter_of n (numbers_of s) kinds ≡ refreshed s
  restored =
      let v = s.sheet.params in
      filter_of_lem n (take n s.track.x) (take (n * n) s.track.p) (take (n * n) s.sheet.q) v.alpha v.beta v.kappa kinds length_x length_p length_q
      ∙ rw (filled_again h.small h.x, filled_again square h.p, filled_again square h.q, refilled n 8 s.sheet.kinds plain (omega (arith, h.eight, h.small)) (plain_behind n s.sheet.kinds h.eight h.small h.past))

  module _ (g : Storable s) (one : 1 ≤ n) (rest : List ℕ) where
    -- the record and what follows it
    abbrev whole : List ℕ
    whole = 87 ∷ 80 ∷ n ∷ (written number_bytes (numbers_of s) ++ (written kind_bytes kinds ++ rest))

    whole_is : bytes_of s ++ rest ≡ whole
    unfolding bytes_of
    whole_is = ap (λ (l : List ℕ). 87 ∷ 80 ∷ n ∷ l) (append_assoc (written number_bytes (numbers_of s)) (written kind_bytes kinds) rest)

    numbers_fit : every (fits binary64) (numbers_of s) ≡ true
    numbers_fit =
        let t = fits binary64 in
        every_both t (take n s.track.x) _ (every_front t n s.track.x g.x) (every_both t (take (n * n) s.track.p) _ (every_front t (n * n) s.track.p g.p) (every_both t (take (n * n) s.sheet.q) _ (every_front t (n * n) s.sheet.q g.q) g.params))

    kinds_fit : every kind_fits kinds ≡ true
    kinds_fit = every_front kind_fits n s.sheet.kinds g.kinds

    numbers_back : numbers_in whole ≡ numbers_of s
    numbers_back =
        ap (λ (k : ℕ). read_each 8 number_at k (written number_bytes (numbers_of s) ++ (written kind_bytes kinds ++ rest))) (sym length_all)
        ∙ read_written 8 number_bytes number_at length_number (fits binary64) number_back (numbers_of s) numbers_fit (written kind_bytes kinds ++ rest)

    kinds_from : drop (3 + 8 * numbers n) whole ≡ written kind_bytes kinds ++ rest
    kinds_from = drop_at (87 ∷ 80 ∷ n ∷ written number_bytes (numbers_of s)) (written kind_bytes kinds ++ rest) (3 + 8 * numbers n) (omega (arith, length_numbers))

    kinds_back : each_kind whole kind_at ≡ kinds
    kinds_back =
        ap₂ (λ (k : ℕ) (b : List ℕ). read_each 9 kind_at k b) (sym length_kinds) kinds_from
        ∙ read_written 9 kind_bytes kind_at length_kind kind_fits kind_back kinds kinds_fit rest

    kinds_formed : all_true (each_kind whole formed) ≡ true
    kinds_formed =
        ap₂ (λ (k : ℕ) (b : List ℕ). all_true (read_each 9 formed k b)) (sym length_kinds) kinds_from
        ∙ read_all 9 kind_bytes kind_at length_kind kind_fits formed kind_formed kinds kinds_fit rest

    filter_back : filter_in whole ≡ refreshed s
    filter_back = ap₂ (λ (v : List Float) (ks : List Kind). filter_of n v ks) numbers_back kinds_back ∙ restored

    finite_all : Pass finite_in (load_asks whole).inputs
    finite_all =
        subst (Pass finite_in) (sym (ap₂ (λ (t : Filter) (ks : List Kind). inputs_for n (from t.track.x t.track.p ∷ []) t.sheet.q t.sheet.params ++ turn_inputs ks) filter_back kinds_back))
        (h.x.bounded, (h.p.bounded, (h.q.bounded, (h.params, turns_pass kinds (ap all_finite (sym (halves_take n s.sheet.kinds)) ∙ all_front n (halves s.sheet.kinds) h.kinds)))))

    fit_all : every (fit f) (load_asks whole).params ≡ true
    fit_all =
        ap₂ (λ (t : Filter) (ks : List Kind). every (fit f) (by_params n t.sheet.params ∷ as_kinds ks)) filter_back kinds_back
        ∙ ap₂ (λ (a b : Bool). a && b) (h.passed one) (fitting_kinds f n s.sheet.kinds h.turns)

    long_enough : record_length n ≤ length whole
    long_enough = omega (arith, length-append (written number_bytes (numbers_of s)) (written kind_bytes kinds ++ rest), length-append (written kind_bytes kinds) rest, length_numbers, length_turns)

    -- A record, whatever follows it, is read as the filter that it was written from, with points, weights and scratch as New leaves them.
    pub read_back : load_of f (bytes_of s ++ rest) ≡ accepted (refreshed s)
    unfolding in_range
    read_back =
        ap (load_of f) whole_is ∙ past_three f whole (omega arith)
        ∙ passes f (load_asks whole) (accepted (filter_in whole)) refl
        (rw (le-leb 1 n one, le-leb n 8 h.small))
        (rw (le-leb (record_length n) (length whole) long_enough))
        kinds_formed refl refl finite_all refl fit_all
        ∙ ap accepted filter_back

-- ---- READ, THEN SAVED

accepted_same : {A : Type 0} {a b : A} → ◌≡◌ {A = Outcome A} (accepted a) (accepted b) → a ≡ b
accepted_same {A} {a} {b} e = ap (or a) e

first_three : (b : List ℕ) → 3 ≤ length b → take 3 b ≡ get_or b 0 0 ∷ get_or b 1 0 ∷ get_or b 2 0 ∷ []
first_three [] h = absurd (omega arith)
first_three (x ∷ []) h = absurd (omega arith)
first_three (x ∷ y ∷ []) h = absurd (omega arith)
first_three (x ∷ y ∷ z ∷ b) h = refl

-- kinds that have the form, with finite half-turns
sound_kinds : (k : ℕ) (c : List ℕ) → all_true (read_each 9 formed k c) ≡ true → Pass finite_in (turn_inputs (read_each 9 kind_at k c)) → all_true (read_each 9 sound k c) ≡ true
unfolding read_each all_finite
sound_kinds zero c e h = refl
sound_kinds (suc k) c e h =
    ap₂ (λ (s t : Bool). s && t) (ap₂ (λ (s t : Bool). s && t) (and_left (formed c) _ e) (and_left (finite (half_of (kind_at c))) true h.0)) (sound_kinds k (drop 9 c) (and_right (formed c) _ e) h.1)

-- the front of a filled array
pub front_of : {A : Type 0} (k : ℕ) (l d : List A) → length l ≡ k → take k (over l d) ≡ l
front_of k l d e = take_at l (drop (length l) d) k e

module _ (b : List ℕ) where
  abbrev m : ℕ
  m = states_in b

  abbrev turns : List Kind
  turns = each_kind b kind_at

  filter_in_lem : filter_in b ≡ filter_of m (x_in b ++ (p_in b ++ (q_in b ++ (param b 3 ∷ param b 11 ∷ param b 19 ∷ [])))) turns
  filter_in_lem = ap (λ (v : List Float). filter_of m v turns) (numbers_are b)

  lengths : (length (x_in b) ≡ m) × (length (p_in b) ≡ m * m) × (length (q_in b) ≡ m * m) × (length turns ≡ m)
  lengths = (length_read 8 number_at _ _, length_read 8 number_at _ _, length_read 8 number_at _ _, length_read 9 kind_at _ _)

  -- what is read holds the numbers and kinds that stand there
  pub read_parts : (numbers_of (filter_in b) ≡ numbers_in b) × (take m (filter_in b).sheet.kinds ≡ turns)
  read_parts =
      let l = lengths in (
        ap numbers_of (filter_in_lem ∙ filter_of_lem m (x_in b) (p_in b) (q_in b) (param b 3) (param b 11) (param b 19) turns l.0 l.1 l.2)
            ∙ rw (front_of m (x_in b) (zeros 8) l.0, front_of (m * m) (p_in b) (zeros 64) l.1, front_of (m * m) (q_in b) (zeros 64) l.2) (sym (numbers_are b)),
        front_of m turns (replicate 8 plain) l.3,
      )

  -- what is accepted has passed every test, and is that filter
  pub record Took (f : Format) (t : Filter) : Type 0 where
    pub three : 3 ≤ length b
    pub passed : Passed f (load_asks b)
    pub is : filter_in b ≡ t

  module _ (f : Format) (t : Filter) where
    pub took : load_of f b ≡ accepted t → Took f t
    unfolding load_of
    took e =
        let p = passed (leb 3 (length b)) SHORT _ t e in
        let q = by_cases (λ (o : Outcome Filter). o ≡ accepted t → Passed f (load_asks b) × (filter_in b ≡ t)) (λ r z. absurd (refused_never z)) f (load_asks b) (accepted (filter_in b)) (λ h z. (h, accepted_same z)) p.1 in
        record { three = leb-true _ _ p.0; passed = q.0; is = q.1 }

  module _ {f : Format} {t : Filter} (w : Took f t) where
    numbers_finite : all_finite (numbers_in b) ≡ true
    numbers_finite =
        let i = w.passed.inputs in
        let s = filter_in b in
        ap all_finite (sym read_parts.0)
        ∙ all_both (take m s.track.x) _ i.0 (all_both (take (m * m) s.track.p) _ i.1.0 (all_both (take (m * m) s.sheet.q) _ i.1.1.0 i.1.1.1.0))

    -- THE RECORD OF WHAT IS READ is the bytes that were read, up to the record's length
    pub read_exact : AreBytes b → bytes_of t ≡ take (record_length m) b
    unfolding bytes_of
    read_exact a =
        let k = numbers m in
        let g = w.passed in
        let long : record_length m ≤ length b = leb-true _ _ g.lent.0 in
        let e₁ : 8 * k ≤ length (drop 3 b) = omega (arith, length-drop 3 b, long, w.three) in
        let e₂ : 9 * m ≤ length (drop (3 + 8 * k) b) = omega (arith, length-drop (3 + 8 * k) b, long) in
        let c₀ = eqb (get_or b 0 0) 87 in
        let c₁ = eqb (get_or b 1 0) 80 in
        let form = and_right c₁ _ (and_right c₀ _ g.formed) in
        let w₁ = written_read 8 number_bytes number_at (λ c. finite (number_at c)) number_again k (drop 3 b) e₁ (bytes_drop 3 b a) (each_finite k (drop 3 b) ∙ numbers_finite) in
        let w₂ = written_read 9 kind_bytes kind_at sound kind_again m (drop (3 + 8 * k) b) e₂ (bytes_drop (3 + 8 * k) b a) (sound_kinds m (drop (3 + 8 * k) b) form g.inputs.1.1.1.1) in
        let z : record_length m ≡ 3 + (8 * k + 9 * m) = omega arith in
        ap bytes_of (sym w.is)
        ∙ ap₂ (λ (v : List Float) (ks : List Kind). 87 ∷ 80 ∷ m ∷ written number_bytes v ++ written kind_bytes ks) read_parts.0 read_parts.1
        ∙ ap₂ (λ (u v : List ℕ). 87 ∷ 80 ∷ m ∷ u ++ v) w₁ w₂
        ∙ ap₂ (λ (i j : ℕ). i ∷ j ∷ m ∷ take (8 * k) (drop 3 b) ++ take (9 * m) (drop (3 + 8 * k) b)) (sym (eqb-true _ _ (and_left c₀ _ g.formed))) (sym (eqb-true _ _ (and_left c₁ _ (and_right c₀ _ g.formed))))
        ∙ ap (λ (l : List ℕ). l ++ (take (8 * k) (drop 3 b) ++ take (9 * m) (drop (3 + 8 * k) b))) (sym (first_three b w.three))
        ∙ ap (λ (l : List ℕ). take 3 b ++ (take (8 * k) (drop 3 b) ++ take (9 * m) l)) (sym (drop-drop (8 * k) 3 b))
        ∙ ap (λ (l : List ℕ). take 3 b ++ l) (sym (take-add (8 * k) (9 * m) (drop 3 b)))
        ∙ sym (take-add 3 (8 * k + 9 * m) b) ∙ ap (λ (i : ℕ). take i b) (sym z)

-- ---- WHAT IS READ IS AN F64'S, so it can be saved and read again

number_fits : (b : List ℕ) → fits binary64 (number_at b) ≡ true
unfolding number_at
number_fits b = is_true (fits binary64 (number_at b)) (of_bits-fits binary64 (word_of 8 b))

read_fit : (k : ℕ) (b : List ℕ) → every (fits binary64) (read_each 8 number_at k b) ≡ true
unfolding read_each
read_fit zero b = refl
read_fit (suc k) b = ap₂ (λ (x y : Bool). x && y) (number_fits b) (read_fit k (drop 8 b))

kind_fits_lem : (b : List ℕ) → kind_fits (kind_at b) ≡ true
unfolding kind_at
kind_fits_lem b = go (eqb (get_or b 0 0) 0)
  where
    go : (t : Bool) → kind_fits (cond t Plain (Turn (number_at (drop 1 b)))) ≡ true
    go true = refl
    go false = number_fits (drop 1 b)

read_kinds_fit : (k : ℕ) (b : List ℕ) → every kind_fits (read_each 9 kind_at k b) ≡ true
unfolding read_each
read_kinds_fit zero b = refl
read_kinds_fit (suc k) b = ap₂ (λ (x y : Bool). x && y) (kind_fits_lem b) (read_kinds_fit k (drop 9 b))

-- a front over what fits
pub every_over : {A : Type 0} (t : A → Bool) (l d : List A) → every t l ≡ true → every t d ≡ true → every t (over l d) ≡ true
every_over t l d h k = every_both t l (drop (length l) d) h (every_back t (length l) d k)

pub every_same : {A : Type 0} (t : A → Bool) (m : ℕ) (a : A) → t a ≡ true → every t (replicate m a) ≡ true
every_same t zero a h = refl
every_same t (suc m) a h = ap₂ (λ (x y : Bool). x && y) h (every_same t m a h)

pub zeros_fit : (m : ℕ) → every (fits binary64) (zeros m) ≡ true
unfolding zeros fits
zeros_fit m = every_same (fits binary64) m plus_zero refl

pub read_storable : (b : List ℕ) → Storable (filter_in b)
read_storable b =
    let t = fits binary64 in
    let l = lengths b in
    subst Storable (sym (filter_in_lem b ∙ filter_of_lem (m b) (x_in b) (p_in b) (q_in b) (param b 3) (param b 11) (param b 19) (turns b) l.0 l.1 l.2)) (record {
      x = every_over t (x_in b) (zeros 8) (read_fit _ _) (zeros_fit 8);
      p = every_over t (p_in b) (zeros 64) (read_fit _ _) (zeros_fit 64);
      q = every_over t (q_in b) (zeros 64) (read_fit _ _) (zeros_fit 64);
      params = three_fit _ _ _;
      kinds = every_over kind_fits (turns b) (replicate 8 plain) (read_kinds_fit _ _) refl;
    })
  where
    three_fit : (c d e : List ℕ) → every (fits binary64) (number_at c ∷ number_at d ∷ number_at e ∷ []) ≡ true
    three_fit c d e = ap₂ (λ (x y : Bool). x && y) (number_fits c) (ap₂ (λ (x y : Bool). x && y) (number_fits d) (ap₂ (λ (x y : Bool). x && y) (number_fits e) refl))

-- ---- a record is made of bytes

bytes_both : (l r : List ℕ) → AreBytes l → AreBytes r → AreBytes (l ++ r)
bytes_both [] r h k i = k i
bytes_both (c ∷ l) r h k zero = h zero
bytes_both (c ∷ l) r h k (suc i) = bytes_both l r (λ j. h (suc j)) k i

bytes_none : AreBytes []
bytes_none i = omega arith

bytes_one : (c : ℕ) (l : List ℕ) → c < 256 → AreBytes l → AreBytes (c ∷ l)
bytes_one c l h k zero = h
bytes_one c l h k (suc i) = k i

little_bytes : (k v : ℕ) → AreBytes (little_endian k v)
unfolding little_endian
little_bytes zero v = bytes_none
little_bytes (suc k) v = bytes_one (v % 256) (little_endian k (v / 256)) (omega arith) (little_bytes k (v / 256))

number_bytes_lem : (v : Float) → AreBytes (number_bytes v)
unfolding number_bytes
number_bytes_lem v = little_bytes 8 (to_bits binary64 v)

kind_bytes_lem : (k : Kind) → AreBytes (kind_bytes k)
unfolding kind_bytes
kind_bytes_lem Plain = bytes_one 0 (little_endian 8 0) (omega arith) (little_bytes 8 0)
kind_bytes_lem (Turn h) = bytes_one 1 (number_bytes h) (omega arith) (number_bytes_lem h)

written_bytes : {A : Type 0} (to : A → List ℕ) → ((a : A) → AreBytes (to a)) → (l : List A) → AreBytes (written to l)
unfolding written
written_bytes to h [] = bytes_none
written_bytes to h (a ∷ l) = bytes_both (to a) (written to l) (h a) (written_bytes to h l)

pub record_bytes : (s : Filter) → s.sheet.n ≤ 8 → AreBytes (bytes_of s)
unfolding bytes_of
record_bytes s h =
    let k = written kind_bytes (take s.sheet.n s.sheet.kinds) in
    let l = written number_bytes (numbers_of s) ++ k in
    bytes_one 87 (80 ∷ s.sheet.n ∷ l) (omega arith) (bytes_one 80 (s.sheet.n ∷ l) (omega arith) (bytes_one s.sheet.n l (omega arith)
    (bytes_both (written number_bytes (numbers_of s)) k (written_bytes number_bytes number_bytes_lem (numbers_of s)) (written_bytes kind_bytes kind_bytes_lem (take s.sheet.n s.sheet.kinds)))))
