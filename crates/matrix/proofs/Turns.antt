-- A running sum, an array filled place by place, a row and the rows of a matrix, as they stand at the head of a loop; one turn more; the end.
-- Records, so that a law's arguments are read off the invariant; stated in the code's own terms, so that what callees ensure goes in as it is. Assumes nothing.
use Prim.Native.Nat.{ℕ, ◌+◌, ◌*◌}
use mathlib.Core.Path.{◌≡◌, ◌∙◌, ap}
use mathlib.Core.List.{List}
use native.Mathlib.Numerals.{add-one}
use lib.ListN.{set}
use lib.Ieee.{Float}
use Rattle.matrix.specs.Folds.{total_of, places_of, built_of, row_of, rows_of}

-- s is the sum after k turns
pub record Total (op : Float → Float → Float) (z : Float) (e : ℕ → Float) (k : ℕ) (s : Float) : Type 0 where
  pub is : s ≡ total_of op z e k

-- t is the array with i places set
pub record Places (e : ℕ → Float) (z : List Float) (i : ℕ) (t : List Float) : Type 0 where
  pub is : t ≡ places_of e i z

-- t has j cells of row i set, and before that the rows below i
pub record Row (e : ℕ → ℕ → Float) (n : ℕ) (z : List Float) (i j : ℕ) (t : List Float) : Type 0 where
  pub is : t ≡ row_of e n i j (rows_of e n i z)

pub record Rows (e : ℕ → ℕ → Float) (n : ℕ) (z : List Float) (i : ℕ) (t : List Float) : Type 0 where
  pub is : t ≡ rows_of e n i z

pub total_from : {op : Float → Float → Float} {z : Float} {e : ℕ → Float} {s : Float} → s ≡ z → Total op z e 0 s
unfolding total_of
total_from q = record { is = q }

module _ {op : Float → Float → Float} {z : Float} {e : ℕ → Float} {k : ℕ} {s : Float} (at : Total op z e k s) where
  pub total_more : {v w : Float} → w ≡ op s v → v ≡ e k → Total op z e (k + 1) w
  unfolding total_of
  total_more r q = record { is = rw (add-one, r, at.is, q) }

  pub total_as : {t : ℕ} → k ≡ t → Total op z e t s
  total_as q = record { is = at.is ∙ ap (total_of op z e) q }

  pub total_end : {t : ℕ} → k ≡ t → s ≡ total_of op z e t
  total_end q = at.is ∙ ap (total_of op z e) q

pub places_from : {e : ℕ → Float} {z t : List Float} → t ≡ z → Places e z 0 t
unfolding places_of
places_from q = record { is = q }

module _ {e : ℕ → Float} {z : List Float} {i : ℕ} {t : List Float} (at : Places e z i t) where
  pub places_more : {v : Float} {u : List Float} → u ≡ set t i v → v ≡ e i → Places e z (i + 1) u
  unfolding places_of
  places_more r q = record { is = rw (add-one, r, at.is, q) }

  pub places_end : {d : ℕ} → i ≡ d → t ≡ places_of e d z
  places_end q = at.is ∙ ap (λ (x : ℕ). places_of e x z) q

pub record Built (at : ℕ → ℕ) (e : List Float → ℕ → Float) (z : List Float) (k : ℕ) (t : List Float) : Type 0 where
  pub is : t ≡ built_of at e k z

pub built_from : {at : ℕ → ℕ} {e : List Float → ℕ → Float} {z t : List Float} → t ≡ z → Built at e z 0 t
unfolding built_of
built_from q = record { is = q }

module _ {at : ℕ → ℕ} {e : List Float → ℕ → Float} {z : List Float} {k : ℕ} {t : List Float} (b : Built at e z k t) where
  pub built_more : {p : ℕ} {v : Float} {u : List Float} → u ≡ set t p v → p ≡ at k → v ≡ e t p → Built at e z (k + 1) u
  unfolding built_of
  built_more w r q = record { is = rw (add-one, w, q, r, b.is) }

  pub built_as : {d : ℕ} → k ≡ d → Built at e z d t
  built_as q = record { is = b.is ∙ ap (λ (x : ℕ). built_of at e x z) q }

pub rows_from : {e : ℕ → ℕ → Float} {n : ℕ} {z t : List Float} → t ≡ z → Rows e n z 0 t
unfolding rows_of
rows_from q = record { is = q }

module _ {e : ℕ → ℕ → Float} {n : ℕ} {z : List Float} {i : ℕ} {t : List Float} (at : Rows e n z i t) where
  pub row_none : Row e n z i 0 t
  unfolding row_of
  row_none = record { is = at.is }

  pub rows_end : {d : ℕ} → i ≡ d → t ≡ rows_of e n d z
  rows_end q = at.is ∙ ap (λ (x : ℕ). rows_of e n x z) q

module _ {e : ℕ → ℕ → Float} {n : ℕ} {z : List Float} {i j : ℕ} {t : List Float} (at : Row e n z i j t) where
  pub row_more : {p : ℕ} {v : Float} {u : List Float} → u ≡ set t p v → p ≡ i * n + j → v ≡ e i j → Row e n z i (j + 1) u
  unfolding row_of
  row_more w r q = record { is = rw (add-one, w, at.is, r, q) }

  pub row_end : j ≡ n → Rows e n z (i + 1) t
  unfolding rows_of
  row_end q = record { is = rw (add-one, at.is, q) }
