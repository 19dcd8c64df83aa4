-- The row that a refused factor tells is that of the first bad pivot: the columns before it are right, and it is the only such row. Assumes nothing.
use Prim.Native.Nat.{ℕ, zero, suc, ◌+◌, ◌*◌, ◌<◌, ◌≤◌}
use mathlib.Core.Path.{◌≡◌, refl, sym, ap, ap₂, ◌∙◌, subst}
use mathlib.Core.Bool.{true≢false}
use mathlib.Core.List.{List}
use mathlib.Core.Logic.{◌↔◌, inl, inr, ⊎_elim}
use native.Mathlib.Omega.{arith}
use lib.ListN.{get_or}
use lib.Ieee.{Float, Format, nan, sub, mul, div}
use lib.Ieee.Scale.{finite}
use Rattle.floats.specs.declared.Refusal.{Refusal}
use Rattle.floats.specs.declared.Refusal.TheVariants.{Range as RANGE}
use Rattle.floats.specs.Refusal.{Outcome, refused, accepted}
use Rattle.floats.specs.Numbers.{above_zero}
use Rattle.root.specs.Definition.{root_of}
use Rattle.matrix.specs.Sums.{product_at}
use Rattle.matrix.specs.Results.{worked}
use Rattle.matrix.specs.Factor.{left_of, factor_of}
use Rattle.matrix.specs.Factored.{Part, BadPivot}
use Rattle.matrix.proofs.Flat.{split}
use Rattle.matrix.proofs.Cells.{total_same}
use Rattle.matrix.proofs.FactorLaws.{Was, Stopped, at_pivot, at_entry, is_factor, is_stopped}

module _ (f : Format) (r : ℕ → Refusal) (a : List Float) (n : ℕ) where
  -- ---- columns that are right are the same

  -- up to column c, on and under the diagonal
  record Same (c : ℕ) (l m : List Float) : Type 0 where
    at : (s k : ℕ) → k < c → k ≤ s → s < n → get_or l (s * n + k) nan ≡ get_or m (s * n + k) nan

  left_same : {c : ℕ} {l m : List Float} → Same c l m → (s k : ℕ) → k ≤ c → k ≤ s → s < n → left_of f a n s k l ≡ left_of f a n s k m
  left_same {c} {l} {m} e s k h g i =
      total_same (sub f) (get_or a (s * n + k) nan) (product_at f l (s * n) l (k * n)) (product_at f m (s * n) m (k * n)) k
      (λ p q. ap₂ (mul f) (e.at s p (omega arith) (omega arith) i) (e.at k p (omega arith) (omega arith) (omega arith)))

  -- column c is made in both
  abbrev Both : (ℕ → ℕ → Type 0) → (ℕ → ℕ → Type 0) → ℕ → Type 0
  Both M N c = (s : ℕ) → c ≤ s → s < n → M s c × N s c

  module _ {M N : ℕ → ℕ → Type 0} {l m : List Float} (p : Part f a n M l) (q : Part f a n N m) where
    diagonal_same : (c : ℕ) → c < n → M c c → N c c → Same c l m → get_or l (c * n + c) nan ≡ get_or m (c * n + c) nan
    diagonal_same c h x y e = (p.diagonal c h x).root ∙ ap (root_of f) (left_same e c c (omega arith) (omega arith) h) ∙ sym (q.diagonal c h y).root

    column_same : (c : ℕ) → c < n → Both M N c → Same c l m → Same (c + 1) l m
    column_same c h b e = record {
      at = λ s k g i j.
          ⊎_elim
          (λ u. e.at s k u i j)
          (λ u.
          let d : k ≡ c = omega arith in
          let o = diagonal_same c h (b c (omega arith) h).0 (b c (omega arith) h).1 e in
          subst (λ (k : ℕ). get_or l (s * n + k) nan ≡ get_or m (s * n + k) nan) (sym d)
          (⊎_elim
          (λ v. let w = b s (omega arith) j in (p.lower s c v j w.0).quotient ∙ ap₂ (div f) (left_same e s c (omega arith) (omega arith) j) o ∙ sym (q.lower s c v j w.1).quotient)
          (λ v. let z : s ≡ c = omega arith in subst (λ (s : ℕ). get_or l (s * n + c) nan ≡ get_or m (s * n + c) nan) (sym z) o)
          (split c s)))
          (split k c);
    }

    same_to : (c : ℕ) → c ≤ n → ((k : ℕ) → k < c → Both M N k) → Same c l m
    same_to zero h b = record { at = λ s k g i j. absurd (omega arith) }
    same_to (suc c) h b = let e = column_same c (omega arith) (b c (omega arith)) (same_to c (omega arith) (λ k g. b k (omega arith))) in record { at = λ s k g i j. e.at s k (omega arith) i j }

  -- ---- so the work stops there

  module _ (small : n ≤ 8) (j : ℕ) (b : BadPivot f a n j) where
    -- entries that are right in the columns before c, and its own diagonal
    never : {M : ℕ → ℕ → Type 0} {l : List Float} → Part f a n M l → M j j → ((k : ℕ) → k < j → (s : ℕ) → k ≤ s → s < n → M s k) → ⊥
    never p x w =
        let e = same_to b.right p j (omega (arith, b.inside)) (λ k g s h i. (g, w k g s h i)) in
        true≢false (sym (p.diagonal j b.inside x).above ∙ ap above_zero (sym (left_same e j j (omega arith) (omega arith) b.inside)) ∙ b.bad)

    -- up to column i, before j
    before : (i : ℕ) {M : ℕ → ℕ → Type 0} {l : List Float} → i < j → Part f a n M l → ((k : ℕ) → k < i → (s : ℕ) → k ≤ s → s < n → M s k) → Same i b.entries l
    before i g p w = same_to b.right p i (omega (arith, b.inside)) (λ k h s u v. (omega arith, w k h s u v))

    stops : (q : Refusal) → Stopped f r a n q → q ≡ r j
    stops q (at_pivot i l h p t) =
        ⊎_elim
        (λ g. let e = before i g p (λ k u s v w. inl u) in absurd (true≢false (sym (b.right.diagonal i h g).above ∙ ap above_zero (left_same e i i (omega arith) (omega arith) h) ∙ t)))
        (λ g. ⊎_elim (λ u. absurd (never p (inl u) (λ k v s w x. inl (omega arith)))) (λ u. let z : i ≡ j = omega arith in ap r z) (split j i))
        (split i j)
    stops q (at_entry i k l h g p t) =
        ⊎_elim
        (λ u.
        let e = before k u p (λ c v s w x. inl v) in
        let o = diagonal_same b.right p k (omega arith) u (inr (refl, h)) e in
        let low = b.right.lower i k h g u in
        absurd (true≢false (sym low.bounded ∙ ap finite (low.quotient ∙ ap₂ (div f) (left_same e i k (omega arith) (omega arith) g) o) ∙ t)))
        (λ u. absurd (never p (⊎_elim (λ v. inl v) (λ v. inr (omega arith, omega arith)) (split j k)) (λ c v s w x. inl (omega arith))))
        (split k j)

    is_refused : worked (factor_of f r a n) ≡ refused (r j)
    is_refused = go (worked (factor_of f r a n)) refl
      where
        go : (o : Outcome (List Float)) → worked (factor_of f r a n) ≡ o → o ≡ refused (r j)
        go (accepted l) e = absurd (never (is_factor f r a n small l e) tt (λ k v s w x. tt))
        go (refused q) e = ap refused (stops q (is_stopped f r a n small q e))

  -- THE ROW TOLD IS THAT OF THE FIRST BAD PIVOT, where r tells rows apart and isn't 9
  pub row_exactly : n ≤ 8 → (j : ℕ) → ((i : ℕ) → r i ≡ r j → i ≡ j) → (RANGE ≡ r j → ⊥) → (worked (factor_of f r a n) ≡ refused (r j)) ↔ BadPivot f a n j
  row_exactly small j own apart = (λ e. why (r j) (is_stopped f r a n small (r j) e) refl, λ b. is_refused small j b)
    where
      -- the columns before i
      before_it : {i : ℕ} {l : List Float} → Part f a n (Was i i) l → Part f a n (λ (s k : ℕ). k < i) l
      before_it p = record { long = p.long; diagonal = λ k g w. p.diagonal k g (inl w); lower = λ s k g h w. p.lower s k g h (inl w); upper = p.upper; rest = p.rest }

      why : (q : Refusal) → Stopped f r a n q → q ≡ r j → BadPivot f a n j
      why q (at_pivot i l h p t) e = subst (BadPivot f a n) (own i e) (record { entries = l; inside = h; right = before_it p; bad = t })
      why q (at_entry i k l h g p t) e = absurd (apart e)
