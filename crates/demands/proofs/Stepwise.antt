-- Point by point: what an ask and an image do once taken, the images so far as the front of their list, and the whole-list close on that front. Assumes nothing.
use Prim.Native.Nat.{ℕ, zero, suc, ◌+◌, ◌*◌, ◌≤◌}
use mathlib.Core.Path.{◌≡◌, refl, sym, ap, ap₂, ◌∙◌, subst}
use mathlib.Core.Bool.{Bool, true, false, ◌&&◌, cond}
use mathlib.Core.List.{List, [], ◌∷◌, ◌++◌}
use native.Mathlib.Numerals.{add-one}
use native.Mathlib.Nat.{mul-le-mul, mul-le-mul_right}
use native.Mathlib.Omega.{arith}
use borrow.Author.Tests.{le-leb, lt-leb, ne_eqb}
use lib.Dec.{leb, eqb}
use lib.ListN.{length, take, drop, length-drop}
use lib.Seq.{paste, length-take-le, take_at, drop_at, take-take, drop-drop, take-add, drop-append_seam}
use lib.Ieee.{Float, Format}
use Rattle.floats.specs.declared.Slice.TheVariants.{Noise, Points, Measurement, Lone}
use Rattle.floats.specs.declared.Refusal.{Refusal}
use Rattle.floats.specs.Refusal.{taken, Outcome, refused, accepted}
use Rattle.floats.specs.Search.{input, searched}
use Rattle.floats.specs.Numbers.{zeros, all_finite}
use Rattle.floats.specs.Fronts.{front}
use Rattle.floats.proofs.Fronts.{front_none, length_front}
use Rattle.floats.proofs.Refusals.{number_above}
use Rattle.matrix.specs.Results.{Plan, finish, run, mapped}
use Rattle.matrix.proofs.Cells.{length_zeros}
use Rattle.sigma.specs.Draw.{point_numbers}
use Rattle.sigma.specs.Predict.{predict_plan}
use Rattle.sigma.specs.Weights.{w0m_of}
use Rattle.correction.specs.Leaves.{widened}
use Rattle.correction.specs.Correct.{apply_plan, given, weighted_head}
use Rattle.correction.specs.Flat.{flat_head}
use Rattle.filter.specs.Types.{Kept}
use Rattle.filter.specs.Types.{Sheet}
use Rattle.filter.specs.Types.{Weighted}
use Rattle.filter.specs.Types.{Filter}
use Rattle.filter.specs.Types.{Answer}
use Rattle.filter.specs.Asked.{Asks, in_range, within, every, guarded}
use Rattle.filter.specs.Filters.{filter, close, is_predicting_stepped, is_correcting_stepped, is_stepped, keeping, nothing_kept, seen, Setting, opened_prediction, opened_correction, opened_correction_stepped, with_drawn, with_kept}
use Rattle.filter.specs.Calls.{open_correction_stepped, ask, image_prediction, image_correction, SteppedClose, close_prediction_stepped, close_correction_stepped, close_correction_flat_stepped, with_list, Call, setting, stepping, closing, closing_stepped, CloseCall, fits, halves, named, named_by, asks, Done, opened, opened_stepped, asked_for, handed_in, closed, close_plan, plan}
use Rattle.filter.specs.Steps.{Stepped, stepped, step, answered}
use Rattle.stepped.specs.Ways.{Sort, predicts, corrects, sort_of, stepped_stage, whole_stage, at_stage, opened_at, unless_refused}
use Rattle.stepped.proofs.Seen.{fits_seen, asked_is, predicted_is, observed_is, observed_asks}
use Rattle.stepped.proofs.Ways.{not_zero, opens_prediction, opens_correction, closes_whole}
use Rattle.demands.specs.Rounds.{stepped_open, whole_open, image_numbers, handing, Measured, Images, rounds}
use Rattle.demands.specs.Runs.{ran_to}
use Rattle.demands.proofs.Passed.{both, both_true, Pass, Passed, by_cases, run_cases}
use Rattle.demands.proofs.Places.{passes, agrees}
use Rattle.demands.proofs.Turned.{in_range_is}
use Rattle.demands.proofs.Table.{Own, regular, taken_fits}
use Rattle.demands.proofs.Leftover.{ran_append}
use Rattle.demands.proofs.Arrays.{all_front, all_parts}
use Rattle.demands.proofs.Accepted.{point_asked, image_in, asked_taken, prediction_opened, correction_opened_afresh, correction_opened, stepped_prediction_opened, stepped_correction_opened_afresh, stepped_correction_opened}

-- ---- lists

-- one image more after the first a numbers
paste_front : (a d : ℕ) (v w z : List Float) → a ≤ length v → take d w ≡ take d (drop a v) → paste (front a v z) a w d ≡ front (a + d) v z
unfolding front
paste_front a d v w z h e =
    let n = length-take-le a v h in
    ap₂ ◌++◌ (ap₂ ◌++◌ (take_at (take a v) (drop a z) a n) e ∙ sym (take-add a d v))
    (sym (drop-drop d a (take a v ++ drop a z)) ∙ ap (drop d) (drop_at (take a v) (drop a z) a n) ∙ drop-drop d a z)

-- d numbers from a on, of n finite ones
part_finite : (a d n : ℕ) (v : List Float) → a + d ≤ n → all_finite (take n v) ≡ true → all_finite (take d (drop a v)) ≡ true
part_finite a d n v h f =
    let e : take (a + d) (take n v) ≡ take (a + d) v = take-take (a + d) n v h in
    (all_parts (take a v) (take d (drop a v)) (ap all_finite (sym (take-add a d v) ∙ sym e) ∙ all_front (a + d) (take n v) f)).1

-- they are the same of the first n
pub part_same : (a d n : ℕ) (l : List Float) → a + d ≤ n → take d (drop a (take n l)) ≡ take d (drop a l)
part_same a d n l h =
    let e : take a (take n l) ++ take d (drop a (take n l)) ≡ take a l ++ take d (drop a l) = sym (take-add a d (take n l)) ∙ take-take (a + d) n l h ∙ take-add a d l in
    let g : take a (take n l) ≡ take a l = take-take a n l (omega arith) in
    sym (drop-append_seam (take a l) (take d (drop a (take n l)))) ∙ ap (drop (length (take a l))) (ap (λ (u : List Float). u ++ take d (drop a (take n l))) (sym g) ∙ e) ∙ drop-append_seam (take a l) (take d (drop a l))

-- part k of d numbers lies within 2n+1 such
pub part_in : (n d k : ℕ) → k ≤ n + n → k * d + d ≤ (n + n + 1) * d
part_in n d k h = let i : (k + 1) * d ≤ (n + n + 1) * d = mul-le-mul_right d (let j : k + 1 ≤ n + n + 1 = omega arith in j) in omega arith

-- ---- what an ask and an image do, where nothing refuses them

module _ (f : Format) (s : Filter) (states : in_range 1 8 s.sheet.n ≡ true) where
  finished : (c : Call) (d : Done) → guarded f (asks (seen s) c) (run (plan f (seen s) c)) ≡ run (plan f (seen s) c) → plan f (seen s) c ≡ finish d → step f s c ≡ stepped s (accepted d)
  unfolding step run
  finished c d g e = ap (stepped s) (g ∙ ap run e)

  pub asked : (b : List Float) → fits (stepping (ask b)) s ≡ true → s.sheet.n ≤ length b → step f s (stepping (ask b)) ≡ stepped s (accepted (point_asked f s))
  asked b h l =
      let c = stepping (ask b) in
      finished c (point_asked f s) (passes f (asks (seen s) c) (run (plan f (seen s) c)) (fits_seen s c ∙ h) (both_true states refl) (both_true (le-leb _ _ l) refl) refl refl refl tt refl refl) (asked_is f s b (both {a = is_stepped s.track.stage} h).0)

  handed_prediction : (v : List Float) → fits (stepping (image_prediction v)) s ≡ true → s.sheet.n ≤ length v → all_finite (take s.sheet.n v) ≡ true → step f s (stepping (image_prediction v)) ≡ stepped s (accepted (image_in f s 0 s.sheet.n v))
  handed_prediction v h l b =
      let c = stepping (image_prediction v) in
      finished c (image_in f s 0 s.sheet.n v) (passes f (asks (seen s) c) (run (plan f (seen s) c)) (fits_seen s c ∙ h) (both_true states refl) (both_true (le-leb _ _ l) refl) refl refl refl (b, tt) refl refl) (predicted_is f s v (both {a = is_predicting_stepped s.track.stage} h).0)

  handed_correction : (m : ℕ) (v : List Float) → fits (stepping (image_correction m v)) s ≡ true → (1 ≤ m) × (m ≤ 4) → every within (named s.track.kept m) ≡ true → m ≤ length v → all_finite (take m v) ≡ true → step f s (stepping (image_correction m v)) ≡ stepped s (accepted (image_in f s m m v))
  handed_correction m v h i j l b =
      let c = stepping (image_correction m v) in
      let sizes = subst (λ (a : Asks). every within a.sizes ≡ true) (observed_asks f s m v h) (both_true states (both_true (in_range_is 1 4 m i) j)) in
      finished c (image_in f s m m v) (passes f (asks (seen s) c) (run (plan f (seen s) c)) (fits_seen s c ∙ h) sizes (both_true (le-leb _ _ l) refl) refl refl refl (b, tt) refl refl) (observed_is f s m v (both {a = is_correcting_stepped s.track.stage} h).0)

-- ---- THE IMAGES SO FAR ARE THE FRONT OF THEIR LIST

-- the m that an image names, 0 in a prediction; once k are in it has been named
abbrev naming : Sort → ℕ
naming predicts = 0
naming (corrects m) = m

module _ (s : Filter) (d : Weighted) (c : Sort) (v : List Float) where
  -- what is kept once k images are in, and the filter then, whose stepped call has drawn d
  abbrev pub kept_after : ℕ → Kept
  kept_after k = keeping k false (cond (eqb k 0) 0 (naming c)) (front (k * image_numbers s.sheet.n c) v (zeros 136))

  abbrev pub holding : Kept → Filter
  holding k = filter s.sheet (with_kept (with_drawn s.track (stepped_stage c) d) k)

  module _ (f : Format) (a i : ℕ → List Float) (states : in_range 1 8 s.sheet.n ≡ true) (im : Images s.sheet.n c i v) (room : (k : ℕ) → k ≤ s.sheet.n + s.sheet.n → s.sheet.n ≤ length (a k)) (k : ℕ) (h : k ≤ s.sheet.n + s.sheet.n) where
    -- point k of those drawn, and nothing moves on
    pub point_asked_lem : step f (holding (kept_after k)) (stepping (ask (a k))) ≡ stepped (holding (kept_after k)) (accepted (point_asked f (holding (kept_after k))))
    point_asked_lem = asked f (holding (kept_after k)) states (a k) (fitting c) (room k h)
      where
        fitting : (c : Sort) → (is_stepped (stepped_stage c) && leb k (s.sheet.n + s.sheet.n)) ≡ true
        fitting predicts = le-leb _ _ h
        fitting (corrects m) = le-leb _ _ h

    -- the front of the list with image k after it
    pub next_kept : handed_in (kept_after k) (naming c) (image_numbers s.sheet.n c) (i k) ≡ kept_after (suc k)
    next_kept =
        let n = image_numbers s.sheet.n c in
        ap₂ (λ (j : ℕ) (l : List Float). keeping j false (naming c) l) (add-one k)
        (paste_front (k * n) n v (i k) (zeros 136) (omega (arith, part_in s.sheet.n n k h, im.enough)) (im.listed k h) ∙ ap (λ (j : ℕ). front j v (zeros 136)) (let e : k * n + n ≡ suc k * n = omega arith in e))
        ∙ ap (λ (t : Bool). keeping (suc k) false (cond t 0 (naming c)) (front (suc k * n) v (zeros 136))) (sym (ne_eqb (suc k) 0 (λ e. absurd (omega arith))))

    pub image_finite : all_finite (take (image_numbers s.sheet.n c) (i k)) ≡ true
    image_finite = let n = image_numbers s.sheet.n c in ap all_finite (im.listed k h) ∙ part_finite (k * n) n ((s.sheet.n + s.sheet.n + 1) * n) v (part_in s.sheet.n n k h) im.bounded

-- the m of every image is the first's
named_so : (m k : ℕ) → (1 ≤ m) × (m ≤ 4) → every within (named (keeping k true (cond (eqb k 0) 0 m) []) m) ≡ true
named_so m k i = go (eqb k 0)
  where
    go : (t : Bool) → every within (named (keeping k true (cond t 0 m) []) m) ≡ true
    go true = refl
    go false = rw (ne_eqb m 0 (λ e. absurd (omega (arith, i.0)))) (both_true (in_range_is m m m (omega arith, omega arith)) refl)

-- an image once its point is asked for
pub image_handed : (f : Format) (s : Filter) (d : Weighted) (c : Sort) (v : List Float) (a i : ℕ → List Float) (states : in_range 1 8 s.sheet.n ≡ true) (im : Images s.sheet.n c i v) (room : (k : ℕ) → k ≤ s.sheet.n + s.sheet.n → s.sheet.n ≤ length (a k)) (k : ℕ) (h : k ≤ s.sheet.n + s.sheet.n)
    → step f (holding s d c v (asked_for (kept_after s d c v k))) (stepping (handing c (i k))) ≡ stepped (holding s d c v (asked_for (kept_after s d c v k))) (accepted (image_in f (holding s d c v (asked_for (kept_after s d c v k))) (naming c) (image_numbers s.sheet.n c) (i k)))
image_handed f s d predicts v a i states im room k h =
    let c = predicts in
    handed_prediction f (holding s d c v (asked_for (kept_after s d c v k))) states (i k) (both_true (le-leb _ _ h) refl) (im.long k h) (image_finite s d c v f a i states im room k h)
image_handed f s d (corrects m) v a i states im room k h =
    let c = corrects m in
    handed_correction f (holding s d c v (asked_for (kept_after s d c v k))) states m (i k) (both_true (le-leb _ _ h) refl) im.measured (named_so m k im.measured) (im.long k h) (image_finite s d c v f a i states im room k h)

module _ (f : Format) (s : Filter) (d : Weighted) (c : Sort) (v : List Float) (a i : ℕ → List Float) (states : in_range 1 8 s.sheet.n ≡ true) (im : Images s.sheet.n c i v) (room : (k : ℕ) → k ≤ s.sheet.n + s.sheet.n → s.sheet.n ≤ length (a k)) where
  abbrev after : ℕ → Filter
  after k = holding s d c v (kept_after s d c v k)

  -- nothing but what is kept has moved after k rounds
  pub rounds_to : (k : ℕ) → k ≤ s.sheet.n + s.sheet.n + 1 → ran_to f (after 0) (rounds c a i k) ≡ after k
  unfolding rounds ran_to
  rounds_to zero h = refl
  rounds_to (suc k) h =
      let l : k ≤ s.sheet.n + s.sheet.n = omega arith in
      ran_append f (after 0) (rounds c a i k) (stepping (ask (a k)) ∷ stepping (handing c (i k)) ∷ [])
      ∙ ap (λ (z : Filter). (step f (step f z (stepping (ask (a k)))).filter (stepping (handing c (i k)))).filter) (rounds_to k (omega arith))
      ∙ ap (λ (z : Stepped). (step f z.filter (stepping (handing c (i k)))).filter) (point_asked_lem s d c v f a i states im room k l)
      ∙ ap (λ (z : Stepped). z.filter) (image_handed f s d c v a i states im room k l)
      ∙ ap (holding s d c v) (next_kept s d c v f a i states im room k l)

-- ---- THE CLOSE

-- of its list a whole-list close reads the numbers that it needs, and no more
module _ (f : Format) (s : Filter) (v w : List Float) where
  abbrev Same : SteppedClose → Type 0
  Same c = let k = (s.sheet.n + s.sheet.n + 1) * image_numbers s.sheet.n (sort_of c) in (k ≤ length v) × (k ≤ length w) × (take k v ≡ take k w)

  front_same : (k : ℕ) → take k v ≡ take k w → front k v (zeros 136) ≡ front k w (zeros 136)
  unfolding front
  front_same k e = ap (λ (l : List Float). l ++ drop k (zeros 136)) e

  long_same : (k : ℕ) → k ≤ length v → k ≤ length w → leb k (length v) ≡ leb k (length w)
  long_same k h g = le-leb _ _ h ∙ sym (le-leb _ _ g)

  plan_same : (c : SteppedClose) → Same c → close_plan f s (with_list c v) ≡ close_plan f s (with_list c w)
  plan_same close_prediction_stepped h = ap (λ (l : List Float). mapped (closed s.track.drawn_weights l false) (predict_plan f s.sheet.n l (w0m_of f s.sheet.n s.sheet.params) s.track.drawn_weights s.sheet.kinds s.sheet.q)) (front_same _ h.2)
  plan_same (close_correction_stepped m z r kinds) h =
      ap (λ (l : List Float). mapped (closed s.track.drawn_weights s.track.drawn_points true) (apply_plan f (weighted_head f (given s.sheet.n m s.track.x s.track.p s.track.drawn_points l (w0m_of f s.sheet.n s.sheet.params) s.track.drawn_weights (front m z (zeros 8)) (front (m * m) r (zeros 64)) s.sheet.kinds (widened kinds))))) (front_same _ h.2)
  plan_same (close_correction_flat_stepped m z r) h =
      ap (λ (l : List Float). mapped (closed s.track.drawn_weights s.track.drawn_points true) (apply_plan f (flat_head f s.sheet.n m s.track.x s.track.p s.track.drawn_points l (front m z (zeros 8)) (front (m * m) r (zeros 64))))) (front_same _ h.2)

  asks_same : {A : Type 0} (c : SteppedClose) (o : Outcome A) → Same c → guarded f (asks s (closing (with_list c v))) o ≡ guarded f (asks s (closing (with_list c w))) o
  asks_same close_prediction_stepped o h = agrees f _ o _ refl refl (ap (λ (t : Bool). t && true) (long_same _ h.0 h.1)) refl refl refl (ap (λ (l : List Float). searched (input Points l)) h.2) refl refl
  asks_same (close_correction_stepped m z r kinds) o h =
      agrees f _ o _ refl refl (ap (λ (t : Bool). leb m (length z) && (leb (m * m) (length r) && (t && true))) (long_same _ h.0 h.1)) refl refl refl
      (ap (λ (l : List Float). searched (input Noise (take (m * m) r) ++ (input Points l ++ (input Measurement (take m z) ++ input Lone (halves (take m kinds)))))) h.2) refl refl
  asks_same (close_correction_flat_stepped m z r) o h =
      agrees f _ o _ refl refl (ap (λ (t : Bool). leb m (length z) && (leb (m * m) (length r) && (t && true))) (long_same _ h.0 h.1)) refl refl refl
      (ap (λ (l : List Float). searched (input Noise (take (m * m) r) ++ (input Points l ++ (input Measurement (take m z) ++ input Lone [])))) h.2) refl refl

-- so two lists that agree so far are one
list_same : (f : Format) (s : Filter) (v w : List Float) (c : SteppedClose) → Same f s v w c → step f s (closing (with_list c v)) ≡ step f s (closing (with_list c w))
unfolding step
list_same f s v w c h =
    ap (λ (p : Plan Done). stepped s (guarded f (asks (seen s) (closing (with_list c v))) (run p))) (plan_same f (seen s) v w c h)
    ∙ ap (stepped s) (asks_same f (seen s) v w c (run (close_plan f (seen s) (with_list c w))) h)

-- what is closed goes by what is seen; refused, u
module _ (f : Format) (s t u : Filter) (e : seen s ≡ seen t) where
  abbrev ByEither : Outcome Done → Type 0
  ByEither o = unless_refused u (answered (stepped s o)) ≡ unless_refused u (answered (stepped t o))

  refused_either : (r : Refusal) → ByEither (refused r)
  refused_either r = rw (not_zero r)

  seen_closes : (c : CloseCall) → unless_refused u (answered (step f s (closing c))) ≡ unless_refused u (answered (step f t (closing c)))
  unfolding step
  seen_closes c =
      by_cases ByEither refused_either f (asks (seen s) (closing c)) (run (plan f (seen s) (closing c)))
      (λ h. run_cases (λ (d : Done). Own (closing c) d.change) ByEither refused_either (plan f (seen s) (closing c)) (regular f (seen s) (closing c)).change
      (λ d o. rw o.1 (ap (λ (x : Sheet). unless_refused u (record { filter = filter x (close o.0); refusal = taken })) (ap (λ (x : Filter). x.sheet) e))))
      ∙ ap (λ (x : Filter). unless_refused u (answered (stepped t (guarded f (asks x (closing c)) (run (plan f x (closing c))))))) e

-- a stepped close with every image in is the whole-list close with their list, on the filter that the whole-list open leaves
module _ (f : Format) (s : Filter) (d : Weighted) (v : List Float) where
  abbrev pub all : Sort → Filter
  all c = holding s d c v (kept_after s d c v (s.sheet.n + s.sheet.n + 1))

  abbrev pub opened_whole : Sort → Filter
  opened_whole c = filter s.sheet (with_drawn s.track (whole_stage c) d)

  kept_unseen : (c : Sort) → seen (at_stage (all c) (whole_stage c)) ≡ seen (opened_whole c)
  kept_unseen predicts = refl
  kept_unseen (corrects m) = refl

  all_in : (c : SteppedClose) → fits (closing_stepped c) (all (sort_of c)) ≡ true
  all_in close_prediction_stepped = rw (lt-leb (s.sheet.n + s.sheet.n + 1) (s.sheet.n + s.sheet.n) (omega arith))
  all_in (close_correction_stepped m z r kinds) = rw (lt-leb (s.sheet.n + s.sheet.n + 1) (s.sheet.n + s.sheet.n) (omega arith))
  all_in (close_correction_flat_stepped m z r) = rw (lt-leb (s.sheet.n + s.sheet.n + 1) (s.sheet.n + s.sheet.n) (omega arith))

  names_it : (c : SteppedClose) → Measured (sort_of c) → every within (named_by (all (sort_of c)).track.kept c) ≡ true
  names_it close_prediction_stepped h = refl
  names_it (close_correction_stepped m z r kinds) h = named_so m (s.sheet.n + s.sheet.n + 1) h
  names_it (close_correction_flat_stepped m z r) h = named_so m (s.sheet.n + s.sheet.n + 1) h

  few : (c : Sort) → s.sheet.n ≤ 8 → Measured c → image_numbers s.sheet.n c ≤ 8
  few predicts h g = h
  few (corrects m) h g = omega (arith, g.1)

  module _ (c : SteppedClose) (i : ℕ → List Float) (small : s.sheet.n ≤ 8) (im : Images s.sheet.n (sort_of c) i v) where
    abbrev k : ℕ
    k = (s.sheet.n + s.sheet.n + 1) * image_numbers s.sheet.n (sort_of c)

    same_list : Same f (opened_whole (sort_of c)) (all (sort_of c)).track.kept.images v c
    unfolding front
    same_list =
        let j : s.sheet.n + s.sheet.n + 1 ≤ 17 = omega arith in
        let room : k ≤ 136 = mul-le-mul j (few (sort_of c) small im.measured) in
        let e = length-take-le k v im.enough in
        (omega (arith, length_front v (front k v (zeros 136)) (zeros 136) k refl im.enough (omega (arith, length_zeros 136)), length_zeros 136), im.enough, take_at (take k v) (drop k (zeros 136)) k e)

    own_closes : answered (step f (all (sort_of c)) (closing_stepped c)) ≡ unless_refused (all (sort_of c)) (answered (step f (opened_whole (sort_of c)) (closing (with_list c v))))
    own_closes =
        let u = all (sort_of c) in
        closes_whole f u c (all_in c) (names_it c im.measured)
        ∙ seen_closes f (at_stage u (whole_stage (sort_of c))) (opened_whole (sort_of c)) u (kept_unseen (sort_of c)) (with_list c u.track.kept.images)
        ∙ ap (λ (x : Stepped). unless_refused u (answered x)) (list_same f (opened_whole (sort_of c)) u.track.kept.images v c same_list)

  -- whichever close of its sort
  pub stepped_closes : (c : SteppedClose) {o : Sort} → sort_of c ≡ o → (i : ℕ → List Float) → s.sheet.n ≤ 8 → Images s.sheet.n o i v → answered (step f (all o) (closing_stepped c)) ≡ unless_refused (all o) (answered (step f (opened_whole o) (closing (with_list c v))))
  stepped_closes c e i small = subst (λ (o : Sort). Images s.sheet.n o i v → answered (step f (all o) (closing_stepped c)) ≡ unless_refused (all o) (answered (step f (opened_whole o) (closing (with_list c v))))) e (own_closes c i small)

-- ---- THE OPENS

abbrev whole_to : Sort → Weighted → Setting
whole_to predicts = opened_prediction
whole_to (corrects m) = opened_correction

module _ (f : Format) (s : Filter) (b : List Float) where
  -- with room for the whole list
  pub opens_so : point_numbers s.sheet.n ≤ length b → (c : Sort) → answered (step f s (setting (stepped_open c))) ≡ opened_at (stepped_stage c) (answered (step f s (setting (whole_open c b))))
  opens_so room predicts = opens_prediction f s b (λ h. room)
  opens_so room (corrects m) = opens_correction f s b (λ h. room)

  -- both draw the same
  pub record Opened (c : Sort) : Type 0 where
    pub drawn : Weighted
    pub whole_is : step f s (setting (whole_open c b)) ≡ stepped s (accepted (opened (whole_to c) s.sheet.n drawn.weights drawn.points))
    pub whole_left : (step f s (setting (whole_open c b))).filter ≡ filter s.sheet (with_drawn s.track (whole_stage c) drawn)
    pub stepped_left : (step f s (setting (stepped_open c))).filter ≡ filter s.sheet (with_drawn s.track (stepped_stage c) drawn)

  module _ (room : point_numbers s.sheet.n ≤ length b) where
    drawn_both : (c : Sort) (w v : List Float) → step f s (setting (whole_open c b)) ≡ stepped s (accepted (opened (whole_to c) s.sheet.n w v)) → Opened c
    drawn_both c w v e = record {
      drawn = record { weights = w; points = v };
      whole_is = e;
      whole_left = ap (λ (x : Stepped). x.filter) e ∙ left c;
      stepped_left = ap (λ (a : Answer). a.filter) (opens_so room c ∙ ap (λ (x : Stepped). opened_at (stepped_stage c) (answered x)) e) ∙ restaged c;
    }
      where
        left : (c : Sort) → (stepped s (accepted (opened (whole_to c) s.sheet.n w v))).filter ≡ filter s.sheet (with_drawn s.track (whole_stage c) (record { weights = w; points = v }))
        left predicts = refl
        left (corrects m) = refl

        restaged : (c : Sort) → (opened_at (stepped_stage c) (answered (stepped s (accepted (opened (whole_to c) s.sheet.n w v))))).filter ≡ filter s.sheet (with_drawn s.track (stepped_stage c) (record { weights = w; points = v }))
        restaged predicts = refl
        restaged (corrects m) = refl

    pub opens_both : (c : Sort) → (step f s (setting (whole_open c b))).reply.refusal.number ≡ 0 → Opened c
    opens_both predicts e = drawn_both predicts _ _ (prediction_opened f s b e).2
    opens_both (corrects m) e = go s.track.stale refl
      where
        go : (t : Bool) → s.track.stale ≡ t → Opened (corrects m)
        go true h = drawn_both (corrects m) _ _ (correction_opened_afresh f s b h e).2
        go false h = drawn_both (corrects m) _ _ (correction_opened f s b h e)

-- a stepped open hands out nothing, and nothing is kept yet
pub opened_empty : (f : Format) (s : Filter) (c : Sort) → (step f s (setting (stepped_open c))).reply.refusal.number ≡ 0 → ((step f s (setting (stepped_open c))).filter.track.kept ≡ nothing_kept) × ((step f s (setting (stepped_open c))).reply.given ≡ [])
opened_empty f s predicts e = let o = (stepped_prediction_opened f s e).2 in (ap (λ (x : Stepped). x.filter.track.kept) o, ap (λ (x : Stepped). x.reply.given) o)
opened_empty f s (corrects m) e = go s.track.stale refl
  where
    so : (w v : List Float) → step f s (setting open_correction_stepped) ≡ stepped s (accepted (opened_stepped opened_correction_stepped w v)) → ((step f s (setting open_correction_stepped)).filter.track.kept ≡ nothing_kept) × ((step f s (setting open_correction_stepped)).reply.given ≡ [])
    so w v o = (ap (λ (x : Stepped). x.filter.track.kept) o, ap (λ (x : Stepped). x.reply.given) o)

    go : (t : Bool) → s.track.stale ≡ t → ((step f s (setting open_correction_stepped)).filter.track.kept ≡ nothing_kept) × ((step f s (setting open_correction_stepped)).reply.given ≡ [])
    go true h = so _ _ (stepped_correction_opened_afresh f s h e).2
    go false h = so _ _ (stepped_correction_opened f s h e)

-- nothing is kept at first
pub first_kept : (s : Filter) (d : Weighted) (c : Sort) (v : List Float) → kept_after s d c v 0 ≡ nothing_kept
first_kept s d c v = ap (keeping 0 false 0) (ap (λ (j : ℕ). front j v (zeros 136)) (let e : 0 * image_numbers s.sheet.n c ≡ 0 = omega arith in e) ∙ front_none v (zeros 136))

-- any list that is long enough and finite is one of images
pub images_of : (n : ℕ) (c : Sort) (v : List Float) → Measured c → (n + n + 1) * image_numbers n c ≤ length v → all_finite (take ((n + n + 1) * image_numbers n c) v) ≡ true → Images n c (λ (k : ℕ). drop (k * image_numbers n c) v) v
images_of n c v m h b = record { measured = m; long = λ k l. omega (arith, length-drop (k * image_numbers n c) v, part_in n (image_numbers n c) k l); listed = λ k l. refl; enough = h; bounded = b }

-- ---- a call that is taken has passed its tests

module _ (f : Format) (s : Filter) where
  taken_passed : (c : Call) → (step f s c).reply.refusal.number ≡ 0 → Passed f (asks (seen s) c)
  unfolding step
  taken_passed c = by_cases (λ o. (stepped s o).reply.refusal.number ≡ 0 → Passed f (asks (seen s) c)) (λ r e. absurd (omega (arith, number_above r))) f (asks (seen s) c) (run (plan f (seen s) c)) (λ h e. h)

  pub taken_states : (c : Call) → (step f s c).reply.refusal.number ≡ 0 → in_range 1 8 s.sheet.n ≡ true
  taken_states c e = (subst (Pass within) (regular f (seen s) c).states (taken_passed c e).sizes).0

  -- a point asked for again
  pub asked_again : (b c : List Float) → (step f s (stepping (ask b))).reply.refusal.number ≡ 0 → s.sheet.n ≤ length c → step f (step f s (stepping (ask b))).filter (stepping (ask c)) ≡ step f s (stepping (ask b))
  asked_again b c e l =
      let t = asked_taken f s b e in
      ap (λ (x : Stepped). step f x.filter (stepping (ask c))) t
      ∙ asked f (filter s.sheet (with_kept s.track (asked_for s.track.kept))) (taken_states (stepping (ask b)) e) c (taken_fits f s (stepping (ask b)) e) l
      ∙ sym t
