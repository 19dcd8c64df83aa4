-- Arrays as the invariant sees them: finite where in use, +0 where not; what an accepted step has made, and fronts of lent slices. Assumes nothing.
use Prim.Native.Nat.{ℕ, zero, suc, ◌+◌, ◌-◌, ◌≤◌}
use mathlib.Core.Path.{◌≡◌, refl, sym, ap, ◌∙◌}
use mathlib.Core.Bool.{true}
use mathlib.Core.List.{List, [], ◌∷◌, ◌++◌}
use native.Mathlib.Omega.{arith}
use lib.ListN.{length, take, drop, set, replicate, take-append-drop, get_or, length-drop}
use lib.Seq.{paste, length-paste, take-paste, drop-paste, drop-drop, take_at, drop_at, length-take-le, get_or-drop, ext_get_or}
use lib.Ieee.{Float, nan, Format}
use lib.Ieee.Scale.{finite}
use Rattle.floats.specs.Numbers.{plus_zero, zeros, all_finite}
use Rattle.floats.specs.Fronts.{front}
use Rattle.floats.proofs.Finite.{all_append, all_zeros}
use Rattle.floats.proofs.Fronts.{length_front}
use Rattle.angles.specs.Kinds.{half_of, plain}
use Rattle.angles.specs.Kinds.{Kind}
use Rattle.matrix.specs.Folds.{places_of}
use Rattle.matrix.proofs.Cells.{length_zeros, zeros_at}
use Rattle.sigma.proofs.Accepted.{InUse}
use Rattle.filter.specs.Asked.{by_kind, fit, every}
use Rattle.filter.specs.Calls.{halves, as_kinds}
use Rattle.demands.specs.Sound.{Filled}
use Rattle.demands.proofs.Passed.{both, both_true}

-- ---- all finite

pub all_both : (a b : List Float) → all_finite a ≡ true → all_finite b ≡ true → all_finite (a ++ b) ≡ true
all_both a b h k = all_append a b ∙ both_true h k

pub all_parts : (a b : List Float) → all_finite (a ++ b) ≡ true → (all_finite a ≡ true) × (all_finite b ≡ true)
all_parts a b h = both (sym (all_append a b) ∙ h)

all_set : (l : List Float) (i : ℕ) (x : Float) → all_finite l ≡ true → finite x ≡ true → all_finite (set l i x) ≡ true
unfolding all_finite
all_set [] i x h k = h
all_set (y ∷ l) zero x h k = both_true k (both {a = finite y} h).1
all_set (y ∷ l) (suc i) x h k =
    let p = both {a = finite y} {b = all_finite l} h in
    both_true {a = finite y} p.0 (all_set l i x p.1 k)

pub all_front : (k : ℕ) (l : List Float) → all_finite l ≡ true → all_finite (take k l) ≡ true
all_front k l h = (all_parts (take k l) (drop k l) (rw take-append-drop h)).0

pub all_back : (k : ℕ) (l : List Float) → all_finite l ≡ true → all_finite (drop k l) ≡ true
all_back k l h = (all_parts (take k l) (drop k l) (rw take-append-drop h)).1

pub all_places : (e : ℕ → Float) → ((i : ℕ) → finite (e i) ≡ true) → (k : ℕ) (t : List Float) → all_finite t ≡ true → all_finite (places_of e k t) ≡ true
unfolding places_of
all_places e h zero t g = g
all_places e h (suc k) t g = all_set (places_of e k t) k (e k) (all_places e h k t g) (h k)

-- ---- what stands past the places in use

pub drop_same : {A : Type 0} (k m : ℕ) (a : A) → drop k (replicate m a) ≡ replicate (m - k) a
drop_same zero m a = let e : m - 0 ≡ m = omega arith in ap (λ (j : ℕ). replicate j a) (sym e)
drop_same (suc k) zero a = let e : 0 - suc k ≡ 0 = omega arith in ap (λ (j : ℕ). replicate j a) (sym e)
drop_same (suc k) (suc m) a = let e : suc m - suc k ≡ m - k = omega arith in drop_same k m a ∙ ap (λ (j : ℕ). replicate j a) (sym e)

pub drop_zeros : (k m : ℕ) → drop k (zeros m) ≡ zeros (m - k)
unfolding zeros
drop_zeros k m = drop_same k m plus_zero

-- ---- arrays

-- what an accepted step has made (`InUse` of sigma/proofs/Accepted.antt)
pub in_use_filled : {k w : ℕ} {t : List Float} → InUse k w t → Filled k w t
in_use_filled {k} {w} {t} u = record {
  long = u.long;
  bounded = u.fine;
  unused =
      let e : length (drop k t) ≡ w - k = length-drop k t ∙ ap (λ (m : ℕ). m - k) u.long in
      ext_get_or nan (drop k t) (zeros (w - k)) (e ∙ sym (length_zeros (w - k)))
      (λ i h. get_or-drop k t i nan ∙ u.rest (k + i) (omega arith) (omega arith) ∙ sym (zeros_at (w - k) i (omega arith)));
}

pub filled_front : (k m : ℕ) (s : List Float) → k ≤ length s → k ≤ m → all_finite (take k s) ≡ true → Filled k m (front k s (zeros m))
unfolding front
filled_front k m s h g a = record {
  long = length_front s _ (zeros m) k refl h (omega (arith, length_zeros m)) ∙ length_zeros m;
  bounded = ap all_finite (take_at (take k s) (drop k (zeros m)) k (length-take-le k s h)) ∙ a;
  unused = drop_at (take k s) (drop k (zeros m)) k (length-take-le k s h) ∙ drop_zeros k m;
}

pub filled_zeros : (k m : ℕ) → Filled k m (zeros m)
filled_zeros k m = record { long = length_zeros m; bounded = all_front k (zeros m) (all_zeros m); unused = drop_zeros k m }

-- d numbers of v after the k in use
pub filled_paste : (k d m : ℕ) (l v : List Float) → Filled k m l → k + d ≤ m → d ≤ length v → all_finite (take d v) ≡ true → Filled (k + d) m (paste l k v d)
filled_paste k d m l v a g h b = record {
  long = length-paste l k v d (omega (arith, a.long)) h ∙ a.long;
  bounded = ap all_finite (take-paste l k v d (omega (arith, a.long)) h) ∙ all_both (take k l) (take d v) a.bounded b;
  unused = drop-paste l k v d (omega (arith, a.long)) h ∙ sym (drop-drop d k l) ∙ ap (drop d) a.unused ∙ drop_zeros d (m - k) ∙ (let e : m - k - d ≡ m - (k + d) = omega arith in ap zeros e);
}

-- all of such an array is finite
pub filled_all : {k m : ℕ} {l : List Float} → Filled k m l → all_finite l ≡ true
filled_all {k} {m} {l} a =
    ap all_finite (sym (take-append-drop k l))
    ∙ all_both (take k l) (drop k l) a.bounded (ap all_finite a.unused ∙ all_zeros (m - k))

-- ---- kinds

-- plain ones, and plain past them
pub plain_past : (k i : ℕ) → get_or (replicate k plain) i plain ≡ plain
plain_past zero i = refl
plain_past (suc k) zero = refl
plain_past (suc k) (suc i) = plain_past k i

module _ (k : Kind) where
  halves_set : (ks : List Kind) (i : ℕ) → halves (set ks i k) ≡ set (halves ks) i (half_of k)
  halves_set [] i = refl
  halves_set (j ∷ ks) zero = refl
  halves_set (j ∷ ks) (suc i) = ap (λ (v : List Float). half_of j ∷ v) (halves_set ks i)

  pub kinds_finite : (ks : List Kind) (i : ℕ) → all_finite (halves ks) ≡ true → finite (half_of k) ≡ true → all_finite (halves (set ks i k)) ≡ true
  kinds_finite ks i h g = rw (halves_set ks i) (all_set (halves ks) i (half_of k) h g)

  pub kinds_fit : (f : Format) (ks : List Kind) (i : ℕ) → every (fit f) (as_kinds ks) ≡ true → fit f (by_kind k) ≡ true → every (fit f) (as_kinds (set ks i k)) ≡ true
  kinds_fit f [] i h g = h
  kinds_fit f (j ∷ ks) zero h g = both_true g (both {a = fit f (by_kind j)} h).1
  kinds_fit f (j ∷ ks) (suc i) h g =
      let p = both {a = fit f (by_kind j)} {b = every (fit f) (as_kinds ks)} h in
      both_true {a = fit f (by_kind j)} p.0 (kinds_fit f ks i p.1 g)
