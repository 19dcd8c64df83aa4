-- What is never read: measurement kinds from m up. Two close corrections whose kinds agree below m are one call, whatever stands above. Assumes nothing.
use Prim.Native.Nat.{ℕ, zero, suc, ◌+◌, ◌*◌, ◌<◌, ◌≤◌}
use mathlib.Core.Path.{◌≡◌, refl, sym, ap, ap₂, ◌∙◌, fun_ext}
use mathlib.Core.Bool.{true, false}
use mathlib.Core.List.{List}
use native.Mathlib.Omega.{arith}
use lib.ListN.{length, get_or, take, replicate, get_or-append}
use lib.Seq.{get_or-take}
use lib.Ieee.{Float, nan, Format, add, sub, mul}
use Rattle.floats.specs.declared.Refusal.TheVariants.{Innovation as INNOV}
use Rattle.floats.specs.Numbers.{plus_zero, zeros}
use Rattle.angles.specs.Kinds.{through_of, plain}
use Rattle.angles.specs.Kinds.{Kind}
use Rattle.matrix.specs.Folds.{total_of, places_of, row_of, rows_of}
use Rattle.matrix.specs.Results.{Plan, finish, after, listed, run, mapped}
use Rattle.matrix.specs.Sums.{minus_of}
use Rattle.matrix.specs.Factor.{factor_of}
use Rattle.matrix.specs.Inverse.{inverse_of}
use Rattle.matrix.specs.Product.{transb_of}
use Rattle.sigma.specs.Mean.{mean_at, mean_of, weight_sum_of}
use Rattle.sigma.specs.Spread.{deviation_at, deviations_of}
use Rattle.sigma.specs.Predict.{Moment}
use Rattle.sigma.specs.Weights.{w0m_of}
use Rattle.correction.specs.Leaves.{innovation_at, innovation_of, shifted_of, widened}
use Rattle.correction.specs.Correct.{Head, apply_plan, given, weighted_head, correct_plan}
use Rattle.filter.specs.Types.{Filter}
use Rattle.filter.specs.Asked.{Asks, guarded}
use Rattle.filter.specs.Filters.{is_correcting, seen}
use Rattle.filter.specs.Calls.{closing, close_correction, sized, halves, as_kinds, line, lent_measured, inputs_measured, measurement, closed}
use Rattle.filter.specs.Steps.{step, stepped}

-- ---- folds over functions that agree where they are asked

places_same : (e h : ℕ → Float) (m : ℕ) (t : List Float) → ((i : ℕ) → i < m → e i ≡ h i) → places_of e m t ≡ places_of h m t
unfolding places_of
places_same e h zero t q = refl
places_same e h (suc m) t q = rw (q m (omega arith), places_same e h m t (λ i g. q i (omega arith)))

row_same : (e h : ℕ → ℕ → Float) (n i m : ℕ) (t : List Float) → ((j : ℕ) → j < m → e i j ≡ h i j) → row_of e n i m t ≡ row_of h n i m t
unfolding row_of
row_same e h n i zero t q = refl
row_same e h n i (suc m) t q = rw (q m (omega arith), row_same e h n i m t (λ j g. q j (omega arith)))

rows_same : (e h : ℕ → ℕ → Float) (n m : ℕ) (t : List Float) → ((i j : ℕ) → j < n → e i j ≡ h i j) → rows_of e n m t ≡ rows_of h n m t
unfolding rows_of
rows_same e h n zero t q = refl
rows_same e h n (suc m) t q = rw (rows_same e h n m t q) (row_same e h n m n (rows_of h n m t) (λ j g. q m j g))

-- ---- kinds that agree below d

abbrev pub Agree : ℕ → List Kind → List Kind → Type 0
Agree d ks ls = (i : ℕ) → i < d → get_or ks i plain ≡ get_or ls i plain

pub mean_same : (f : Format) (p : List Float) (d t : ℕ) (w0m : Float) (w : List Float) (ks ls : List Kind) → Agree d ks ls → mean_of f p d t w0m w ks ≡ mean_of f p d t w0m w ls
mean_same f p d t w0m w ks ls a =
    places_same (mean_at f p d t w0m w ks) (mean_at f p d t w0m w ls) d (zeros 8) (λ i g.
    ap (λ (c : Kind). add f (mul f (weight_sum_of f w0m w t) (get_or p i nan)) (total_of (add f) plus_zero (λ (k : ℕ). mul f (get_or w (k + 1) nan) (through_of f c (sub f (get_or p ((k + 1) * d + i) nan) (get_or p i nan)))) t)) (a i g))

pub deviations_same : (f : Format) (p : List Float) (d t : ℕ) (mean : List Float) (ks ls : List Kind) → Agree d ks ls → deviations_of f p d t mean ks ≡ deviations_of f p d t mean ls
deviations_same f p d t mean ks ls a = rows_same (deviation_at f p d mean ks) (deviation_at f p d mean ls) d (t + 1) (zeros 136) (λ i j g. rw (a j g))

pub innovation_same : (f : Format) (m : ℕ) (z mean : List Float) (ks ls : List Kind) → Agree m ks ls → innovation_of f m z mean ks ≡ innovation_of f m z mean ls
innovation_same f m z mean ks ls a = places_same (innovation_at f z mean ks) (innovation_at f z mean ls) m (zeros 8) (λ i g. rw (a i g))

-- ---- the correction

module _ (f : Format) where
  -- the shared steps by what they make of the measurement kinds: y
  abbrev plan_by : Head → (List Float → List Float) → Plan Moment
  plan_by h y =
      after (listed h.m h.zm) (λ (zm : List Float).
      after (listed (h.m * h.m) h.s) (λ (s : List Float).
      after (listed h.n h.xm) (λ (xm : List Float).
      after (listed (h.n * h.m) h.c) (λ (c : List Float).
      after (factor_of f INNOV s h.m) (λ (l : List Float).
      after (listed (h.m * h.m) (inverse_of f l h.m)) (λ (v : List Float).
      after (listed (h.n * h.m) (transb_of f c v h.m h.n h.m)) (λ (k : List Float).
      after (listed h.m (y zm)) (λ (i : List Float).
      after (listed h.n (shifted_of f h.n h.m h.x k i)) (λ (x : List Float).
      after (listed (h.n * h.n) (minus_of f (h.n * h.n) h.p (transb_of f c k h.m h.n h.n))) (λ (p : List Float).
      finish (record { x = x; p = p })))))))))))

  -- the same head with other kinds
  abbrev with_kinds : Head → List Kind → Head
  with_kinds h ls = record { n = h.n; m = h.m; x = h.x; p = h.p; z = h.z; measured = ls; zm = h.zm; s = h.s; xm = h.xm; c = h.c }

  apply_same : (h : Head) (ls : List Kind) → Agree h.m h.measured ls → apply_plan f h ≡ apply_plan f (with_kinds h ls)
  apply_same h ls a = ap (plan_by h) (fun_ext (λ mean. innovation_same f h.m h.z mean h.measured ls a))

  module _ (n m : ℕ) (x p points observed : List Float) (w0m : Float) (w z r : List Float) (kinds ks ls : List Kind) (a : Agree m ks ls) where
    abbrev head : List Kind → Head
    head us = weighted_head f (given n m x p points observed w0m w z r kinds us)

    -- z mean, S and cross covariance are the same
    heads_same : head ks ≡ with_kinds (head ls) ks
    heads_same =
        rw (mean_same f observed m (n + n) w0m w ks ls a, deviations_same f observed m (n + n) (mean_of f observed m (n + n) w0m w ls) ks ls a)

    pub plan_same : correct_plan f (given n m x p points observed w0m w z r kinds ks) ≡ correct_plan f (given n m x p points observed w0m w z r kinds ls)
    plan_same = ap (apply_plan f) heads_same ∙ apply_same (with_kinds (head ls) ks) ls a

-- four kinds each, alike below m
wide_agree : (m : ℕ) (ks ls : List Kind) → m ≤ 4 → length ks ≡ 4 → length ls ≡ 4 → take m ks ≡ take m ls → Agree m (widened ks) (widened ls)
wide_agree m ks ls h a b e i g =
    get_or-append ks (replicate 4 plain) plain i (omega arith)
    ∙ sym (get_or-take m ks i plain g) ∙ ap (λ (v : List Kind). get_or v i plain) e ∙ get_or-take m ls i plain g
    ∙ sym (get_or-append ls (replicate 4 plain) plain i (omega arith))

-- A CLOSE CORRECTION READS NO KIND FROM m UP
pub kinds_unread : (f : Format) (s : Filter) (m : ℕ) (z r observed : List Float) (ks ls : List Kind) → m ≤ 4 → length ks ≡ 4 → length ls ≡ 4 → take m ks ≡ take m ls
    → step f s (closing (close_correction m z r ks observed)) ≡ step f s (closing (close_correction m z r ls observed))
unfolding step
kinds_unread f s m z r observed ks ls h a b e =
    let t = seen s in
    let asked : List Kind → Asks =
    λ v. line (is_correcting t.track.stage) t.sheet.n (sized m 1 4)
    (lent_measured t.sheet.n m z r observed)
    false
    (inputs_measured t.sheet.n m z r observed (halves v))
    (as_kinds v) in
    ap₂ (λ (v : List Kind) (q : Plan Moment). stepped s (guarded f (asked v) (run (mapped (closed t.track.drawn_weights t.track.drawn_points true) q)))) e
    (let v = measurement t.sheet.n m z r observed in
    plan_same f t.sheet.n m t.track.x t.track.p t.track.drawn_points v.observed (w0m_of f t.sheet.n t.sheet.params) t.track.drawn_weights v.z v.r t.sheet.kinds (widened ks) (widened ls) (wide_agree m ks ls h a b e))
