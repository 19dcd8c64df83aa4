-- The turns of the loops over pieces: what is left to do, done, comes to the whole. Assumes nothing.
use Prim.Native.Nat.{ℕ, zero, suc, ◌+◌, ◌-◌, ◌*◌, ◌<◌, ◌≤◌}
use mathlib.Core.Path.{◌≡◌, refl, sym, ap, ap₂, ◌∙◌, subst}
use mathlib.Core.Bool.{Bool, ◌&&◌}
use mathlib.Core.List.{List, [], ◌∷◌, ◌++◌, append_assoc}
use native.Mathlib.Numerals.{add-one}
use native.Mathlib.Omega.{arith}
use lib.ListN.{length, take, drop, get_or, set, length-set}
use lib.Seq.{sets, length-sets, sets-eq, drop-drop, drop-cons}
use Rattle.floats.specs.Fronts.{over}
use Rattle.std.specs.List.{list_all, range_with_len}
use Rattle.std.proofs.lemmas.List.{length-take-le}
use Rattle.pieces.specs.Bytes.{written, read_each, all_true}
use Rattle.pieces.proofs.Laws.{length_read}

-- stored one after the other
pub sets_append : {A : Type 0} (l : List A) (i : ℕ) (v u : List A) → sets l i (v ++ u) ≡ sets (sets l i v) (i + length v) u
sets_append l i [] u = ap (λ (j : ℕ). sets l j u) (omega arith)
sets_append l i (a ∷ v) u = sets_append (set l i a) (suc i) v u ∙ ap (λ (j : ℕ). sets (sets (set l i a) (suc i) v) j u) (omega arith)

-- stored at the front
pub sets_over : {A : Type 0} (l v : List A) → length v ≤ length l → sets l 0 v ≡ over v l
sets_over l v h = let z : 0 + length v ≡ length v = omega arith in sets-eq v l 0 (omega arith) ∙ ap (λ (n : ℕ). v ++ drop n l) z

-- stored at the front of the first k
drop-take : {A : Type 0} (k : ℕ) (l : List A) → drop k (take k l) ≡ []
drop-take zero l = refl
drop-take (suc k) [] = refl
drop-take (suc k) (a ∷ l) = drop-take k l

over_part : {A : Type 0} (v l : List A) (k : ℕ) → length v ≡ k → over v (take k l) ++ drop k l ≡ over v l
over_part v l k e =
    append_assoc v (drop (length v) (take k l)) (drop k l)
    ∙ ap (λ (n : ℕ). v ++ (drop n (take k l) ++ drop k l)) e ∙ ap (λ (b : List _). v ++ (b ++ drop k l)) (drop-take k l) ∙ ap (λ (n : ℕ). v ++ drop n l) (sym e)

-- a test of each piece, place after place
places_from : (w : ℕ) (test : List ℕ → Bool) (s : List ℕ) (at a n : ℕ) → list_all (λ i. test (drop (at + w * i) s)) (range_with_len a n) ≡ all_true (read_each w test n (drop (at + w * a) s))
unfolding read_each
places_from w test s at a zero = refl
places_from w test s at a (suc n) =
    let p : at + w * (a + 1) ≡ at + w * a + w = omega arith in
    ap (λ (t : Bool). test (drop (at + w * a) s) && t)
    (places_from w test s at (a + 1) n ∙ ap (λ (b : List ℕ). all_true (read_each w test n b)) (ap (λ (j : ℕ). drop j s) p ∙ sym (drop-drop w (at + w * a) s)))

pub places_all : (w : ℕ) (test : List ℕ → Bool) (s : List ℕ) (at n : ℕ) → list_all (λ i. test (drop (at + w * i) s)) (range_with_len 0 n) ≡ all_true (read_each w test n (drop at s))
places_all w test s at n = let p : at + w * 0 ≡ at = omega arith in places_from w test s at 0 n ∙ ap (λ (j : ℕ). all_true (read_each w test n (drop j s))) p

module _ {A : Type 0} where
  one : (w : ℕ) (from : List ℕ → A) (j : ℕ) (b : List ℕ) → read_each w from (suc j) b ≡ from b ∷ read_each w from j (drop w b)
  unfolding read_each
  one w from j b = refl

  -- the next piece, and what is left after it
  pub each_next : (w : ℕ) (from : List ℕ → A) (s : List ℕ) (at k i : ℕ) → i < k
      → read_each w from (k - i) (drop (at + w * i) s) ≡ from (drop (at + w * i) s) ∷ read_each w from (k - (i + 1)) (drop (at + w * (i + 1)) s)
  each_next w from s at k i h =
      let e : k - i ≡ suc (k - (i + 1)) = omega arith in
      let p : at + w * i + w ≡ at + w * (i + 1) = omega arith in
      ap (λ (j : ℕ). read_each w from j (drop (at + w * i) s)) e ∙ one w from (k - (i + 1)) (drop (at + w * i) s)
      ∙ ap (λ (b : List ℕ). from (drop (at + w * i) s) ∷ read_each w from (k - (i + 1)) b) (drop-drop w (at + w * i) s ∙ ap (λ (j : ℕ). drop j s) p)

  pub each_none : (w : ℕ) (from : List ℕ → A) (s : List ℕ) (at k : ℕ) → read_each w from (k - 0) (drop (at + w * 0) s) ≡ read_each w from k (drop at s)
  each_none w from s at k =
      let e : k - 0 ≡ k = omega arith in
      let p : at + w * 0 ≡ at = omega arith in
      ap₂ (λ (i j : ℕ). read_each w from i (drop j s)) e p

  pub each_end : (w : ℕ) (from : List ℕ → A) (b : List ℕ) (k i : ℕ) → i ≡ k → read_each w from (k - i) b ≡ []
  unfolding read_each
  each_end w from b k i e = let z : k - i ≡ 0 = omega arith in ap (λ (j : ℕ). read_each w from j b) z

  -- i of k pieces have been read to the front of an array
  pub record Reading (w : ℕ) (from : List ℕ → A) (s : List ℕ) (at k : ℕ) (start : List A) (i : ℕ) (out : List A) : Type 0 where
    pub long : length out ≡ length start
    pub comes : sets out i (read_each w from (k - i) (drop (at + w * i) s)) ≡ sets start 0 (read_each w from k (drop at s))

  pub reading_none : {w : ℕ} {from : List ℕ → A} {s : List ℕ} {at k : ℕ} {start : List A} → Reading w from s at k start 0 start
  reading_none {w} {from} {s} {at} {k} {start} = record { long = refl; comes = ap (sets start 0) (each_none w from s at k) }

  module _ {w : ℕ} {from : List ℕ → A} {s : List ℕ} {at k : ℕ} {start : List A} {i : ℕ} {out : List A} (r : Reading w from s at k start i out) where
    pub reading_more : {v : A} → i < k → v ≡ from (drop (at + w * i) s) → Reading w from s at k start (i + 1) (set out i v)
    reading_more {v} h e = record {
      long = length-set out i v ∙ r.long;
      comes =
          ap (λ (j : ℕ). sets (set out i v) j (read_each w from (k - (i + 1)) (drop (at + w * (i + 1)) s))) (add-one i)
          ∙ ap (λ (a : A). sets (set out i a) (suc i) (read_each w from (k - (i + 1)) (drop (at + w * (i + 1)) s))) e
          ∙ sym (ap (sets out i) (each_next w from s at k i h)) ∙ r.comes;
    }

    pub reading_end : i ≡ k → k ≤ length start → out ≡ over (read_each w from k (drop at s)) start
    reading_end e l =
        sym (ap (sets out i) (each_end w from (drop (at + w * i) s) k i e)) ∙ r.comes
        ∙ sets_over start (read_each w from k (drop at s)) (subst (λ (n : ℕ). n ≤ length start) (sym (length_read w from k (drop at s))) l)

    -- where it is read to the first k of a longer list
    pub reading_part : (longer : List A) → start ≡ take k longer → i ≡ k → k ≤ length longer → out ++ drop k longer ≡ over (read_each w from k (drop at s)) longer
    reading_part longer p e l =
        let g : k ≤ length start = omega (arith, ap length p, length-take-le k longer l) in
        ap (λ (b : List A). b ++ drop k longer) (reading_end e g ∙ ap (over (read_each w from k (drop at s))) p)
        ∙ over_part (read_each w from k (drop at s)) longer k (length_read w from k (drop at s))

  pub written_next : (to : A → List ℕ) (l : List A) (k i : ℕ) (d : A) → i < k → i < length l
      → written to (take (k - i) (drop i l)) ≡ to (get_or l i d) ++ written to (take (k - (i + 1)) (drop (i + 1) l))
  unfolding written
  written_next to l k i d h g =
      let p : k - i ≡ suc (k - (i + 1)) = omega arith in
      ap₂ (λ (n : ℕ) (m : List A). written to (take n m)) p (drop-cons l i d g ∙ ap (λ (j : ℕ). get_or l i d ∷ drop j l) (sym (add-one i)))

  -- i of k pieces have been written
  pub record Writing (w : ℕ) (to : A → List ℕ) (l : List A) (k : ℕ) (start : List ℕ) (at i : ℕ) (out : List ℕ) : Type 0 where
    pub long : length out ≡ length start
    pub comes : sets out (at + w * i) (written to (take (k - i) (drop i l))) ≡ sets start at (written to (take k l))

  pub writing_none : {w : ℕ} {to : A → List ℕ} {l : List A} {k : ℕ} {start : List ℕ} {at : ℕ} → Writing w to l k start at 0 start
  writing_none {w} {to} {l} {k} {start} {at} =
      let e : k - 0 ≡ k = omega arith in
      let p : at + w * 0 ≡ at = omega arith in
      record { long = refl; comes = ap₂ (λ (j n : ℕ). sets start j (written to (take n l))) p e }

  module _ {w : ℕ} {to : A → List ℕ} {l : List A} {k : ℕ} {start : List ℕ} {at i : ℕ} {out : List ℕ} (r : Writing w to l k start at i out) where
    pub writing_more : {next : List ℕ} (d : A) → i < k → i < length l → length (to (get_or l i d)) ≡ w → next ≡ sets out (at + w * i) (to (get_or l i d)) → Writing w to l k start at (i + 1) next
    writing_more {next} d h g z e =
        let a = get_or l i d in
        let rest = written to (take (k - (i + 1)) (drop (i + 1) l)) in
        let p : at + w * (i + 1) ≡ at + w * i + length (to a) = omega (arith, z) in
        record {
          long = ap length e ∙ length-sets out (at + w * i) (to a) ∙ r.long;
          comes =
              ap₂ (λ (m : List ℕ) (j : ℕ). sets m j rest) e p ∙ sym (sets_append out (at + w * i) (to a) rest)
              ∙ ap (sets out (at + w * i)) (sym (written_next to l k i d h g)) ∙ r.comes;
        }

    pub writing_end : i ≡ k → out ≡ sets start at (written to (take k l))
    unfolding written
    writing_end e = ap (λ (n : ℕ). sets out (at + w * i) (written to (take n (drop i l)))) zero_left ∙ r.comes
      where
        zero_left : 0 ≡ k - i
        zero_left = omega arith
