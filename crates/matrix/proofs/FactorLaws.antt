-- What stands in each place of a factor: the equations of document 01 that its entries satisfy, each read off the factor itself; and what a stop means. Assumes nothing.
use Prim.Native.Nat.{ℕ, zero, suc, ◌+◌, ◌-◌, ◌*◌, ◌<◌, ◌≤◌}
use mathlib.Core.Path.{◌≡◌, refl, sym, ◌∙◌, subst}
use mathlib.Core.Bool.{Bool, true, false}
use mathlib.Core.List.{List}
use mathlib.Core.Logic.{◌⊎◌, inl, inr, ⊎_elim}
use native.Mathlib.Omega.{arith}
use lib.ListN.{length, get_or, set, length-set}
use lib.Seq.{get_or-set_same, get_or-set_other}
use lib.Ieee.{Float, Format, nan, sub, div}
use lib.Ieee.Scale.{finite}
use Rattle.floats.specs.declared.Refusal.{Refusal}
use Rattle.floats.specs.declared.Refusal.TheVariants.{Range as RANGE}
use Rattle.floats.specs.Refusal.{Outcome, refused, accepted, unless, onward}
use Rattle.floats.specs.Numbers.{zeros, above_zero}
use Rattle.root.specs.Definition.{root_of}
use Rattle.matrix.specs.Sums.{product_at}
use Rattle.matrix.specs.Results.{worked}
use Rattle.matrix.specs.Factor.{left_of, rows_from, column_of, columns_from, factor_of}
use Rattle.matrix.specs.Factored.{Diag, Low, Part, Lower}
use Rattle.matrix.proofs.Flat.{cell_in, row_before, split, same_row, same_column}
use Rattle.matrix.proofs.Cells.{length_zeros, zeros_at, total_same}
use Rattle.matrix.proofs.Results.{worked_then}
use Rattle.matrix.proofs.FactorSteps.{all_one}

-- row s of column k is made once the work has come to row i of column j
abbrev pub Was : ℕ → ℕ → ℕ → ℕ → Type 0
Was j i s k = (k < j) ⊎ ((k ≡ j) × (s < i))

module _ (f : Format) (r : ℕ → Refusal) (a : List Float) (n : ℕ) where
  -- why a work stopped, with the entries that were right so far
  pub data Stopped : Refusal → Type 0 where
    at_pivot : (j : ℕ) (l : List Float) → j < n → Part f a n (Was j j) l → above_zero (left_of f a n j j l) ≡ false → Stopped (r j)
    at_entry : (i j : ℕ) (l : List Float) → j < i → i < n → Part f a n (Was j i) l
        → finite (div f (left_of f a n i j l) (get_or l (j * n + j) nan)) ≡ false → Stopped RANGE

  -- what an outcome means: P of what was made, or a reason to stop
  abbrev pub Means : (List Float → Type 0) → Outcome (List Float) → Type 0
  Means P (accepted l) = P l
  Means P (refused q) = Stopped q

  unless_means : (P : List Float → Type 0) (t : Bool) (q : Refusal) (o : Outcome (List Float)) → (t ≡ false → Stopped q) → (t ≡ true → Means P o) → Means P (unless t q o)
  unless_means P true q o h g = g refl
  unless_means P false q o h g = h refl

  onward_means : (P Q : List Float → Type 0) (o : Outcome (List Float)) (k : List Float → Outcome (List Float)) → Means P o → ((l : List Float) → P l → Means Q (k l)) → Means Q (onward o k)
  onward_means P Q (accepted l) k h g = g l h
  onward_means P Q (refused q) k h g = h

  -- one entry is set, at row i of column j
  module _ (small : n ≤ 8) (i j : ℕ) (hi : i < n) (hj : j ≤ i) (l : List Float) (e : Float) where
    abbrev l' : List Float
    l' = set l (i * n + j) e

    kept_column : (s k : ℕ) → k < n → (k ≡ j → ⊥) → get_or l' (s * n + k) nan ≡ get_or l (s * n + k) nan
    kept_column s k h g = get_or-set_other l (i * n + j) (s * n + k) e nan (λ q. g (same_column i j s k n (omega arith) h q))

    kept_row : (s k : ℕ) → k < n → (s ≡ i → ⊥) → get_or l' (s * n + k) nan ≡ get_or l (s * n + k) nan
    kept_row s k h g = get_or-set_other l (i * n + j) (s * n + k) e nan (λ q. g (same_row i j s k n (omega arith) h q))

    kept_was : (s k : ℕ) → k < n → Was j i s k → get_or l' (s * n + k) nan ≡ get_or l (s * n + k) nan
    kept_was s k h w = ⊎_elim (λ q. kept_column s k h (λ z. omega arith)) (λ q. kept_row s k h (λ z. omega arith)) w

    kept_left : (s k : ℕ) → k ≤ j → left_of f a n s k l' ≡ left_of f a n s k l
    kept_left s k h =
        total_same (sub f) (get_or a (s * n + k) nan) (product_at f l' (s * n) l' (k * n)) (product_at f l (s * n) l (k * n)) k
        (λ m q. rw (kept_column s m (omega arith) (λ z. omega arith), kept_column k m (omega arith) (λ z. omega arith)))

    new : length l ≡ 64 → get_or l' (i * n + j) nan ≡ e
    new h = get_or-set_same l (i * n + j) e nan (omega (arith, cell_in i j n hi (omega arith) small))

    was_le : (s k : ℕ) → Was j i s k → k ≤ j
    was_le s k w = ⊎_elim (λ q. omega arith) (λ q. omega arith) w

    kept_diag : (k : ℕ) → k < n → Was j i k k → Diag f a n l k → Diag f a n l' k
    kept_diag k h w d = record {
      above = rw (kept_left k k (was_le k k w)) d.above;
      root = rw (kept_left k k (was_le k k w), kept_was k k h w) d.root;
    }

    kept_low : (s k : ℕ) → k < s → s < n → Was j i s k → Low f a n l s k → Low f a n l' s k
    kept_low s k g h w d =
        let own : Was j i k k = ⊎_elim (λ q. inl q) (λ q. inr (q.0, omega arith)) w in
        record {
          quotient = rw (kept_left s k (was_le s k w), kept_was s k (omega arith) w, kept_was k k (omega arith) own) d.quotient;
          bounded = rw (kept_was s k (omega arith) w) d.bounded;
        }

    kept_upper : (s k : ℕ) → s < k → k < n → get_or l' (s * n + k) nan ≡ get_or l (s * n + k) nan
    kept_upper s k g h =
        get_or-set_other l (i * n + j) (s * n + k) e nan (λ q.
        let x : s ≡ i = same_row i j s k n (omega arith) h q in
        let y : k ≡ j = same_column i j s k n (omega arith) h q in
        omega arith)

    kept_rest : (p : ℕ) → n * n ≤ p → get_or l' p nan ≡ get_or l p nan
    kept_rest p h = get_or-set_other l (i * n + j) p e nan (λ q. omega (arith, row_before i n n hi))

    -- the entry made, all that were made before it stay right
    set_part : Part f a n (Was j i) l → (i ≡ j → Diag f a n l' j) → (j < i → Low f a n l' i j) → Part f a n (Was j (i + 1)) l'
    set_part p here under = record {
      long = length-set l (i * n + j) e ∙ p.long;
      diagonal = λ k g w.
          ⊎_elim
          (λ q. kept_diag k g (inl q) (p.diagonal k g (inl q)))
          (λ q.
          ⊎_elim
          (λ o. kept_diag k g (inr (q.0, o)) (p.diagonal k g (inr (q.0, o))))
          (λ o. rw q.0 (here (omega arith)))
          (split k i))
          w;
      lower = λ s k g u w.
          ⊎_elim
          (λ q. kept_low s k g u (inl q) (p.lower s k g u (inl q)))
          (λ q.
          ⊎_elim
          (λ o. kept_low s k g u (inr (q.0, o)) (p.lower s k g u (inr (q.0, o))))
          (λ o. let si : s ≡ i = omega arith in rw (q.0, si) (under (omega arith)))
          (split s i))
          w;
      upper = λ s k g u. kept_upper s k g u ∙ p.upper s k g u;
      rest = λ q g u. kept_rest q g ∙ p.rest q g u;
    }

  module _ (small : n ≤ 8) where
    set_diag : (j : ℕ) → j < n → (l : List Float) (e : Float) → Part f a n (Was j j) l
        → above_zero (left_of f a n j j l) ≡ true → e ≡ root_of f (left_of f a n j j l) → Part f a n (Was j (j + 1)) (set l (j * n + j) e)
    set_diag j h l e p t q =
        let jj : j ≤ j = omega arith in
        let x = kept_left small j j h jj l e j j jj in
        set_part small j j h jj l e p (λ z. record { above = rw x t; root = rw (x, new small j j h jj l e p.long) q }) (λ z. absurd (omega arith))

    set_low : (i j : ℕ) → j < i → i < n → (l : List Float) (e : Float) → Part f a n (Was j i) l
        → e ≡ div f (left_of f a n i j l) (get_or l (j * n + j) nan) → finite e ≡ true → Part f a n (Was j (i + 1)) (set l (i * n + j) e)
    set_low i j b h l e p t q =
        let ji : j ≤ i = omega arith in
        let x = new small i j h ji l e p.long in
        let y = kept_left small i j h ji l e i j (omega arith) in
        let z = kept_row small i j h ji l e j j (omega arith) (λ g. omega arith) in
        set_part small i j h ji l e p (λ g. absurd (omega arith)) (λ g. record { quotient = rw (x, y, z) t; bounded = rw x q })

    -- a column that is made to its end
    shift : (j : ℕ) (l : List Float) → Part f a n (Was j n) l → Part f a n (Was (j + 1) (j + 1)) l
    shift j l p = record {
      long = p.long;
      diagonal = λ k g w. p.diagonal k g (before k k g w (omega arith));
      lower = λ s k g u w. p.lower s k g u (before s k u w (omega arith));
      upper = p.upper;
      rest = p.rest;
    }
      where
        before : (s k : ℕ) → s < n → Was (j + 1) (j + 1) s k → k ≤ s → Was j n s k
        before s k h w g = ⊎_elim (λ o. inl o) (λ o. ⊎_elim (λ q. inr (omega arith, h)) (λ q. absurd (omega arith)) w) (split k j)

    rows_mean : (j : ℕ) (d : Float) (m i : ℕ) (l : List Float) → i + m ≡ n → j < i → d ≡ get_or l (j * n + j) nan → Part f a n (Was j i) l → Means (Part f a n (Was j n)) (worked (rows_from f r a n j d m i l))
    unfolding rows_from worked
    rows_mean j d zero i l s b q p = let x : i ≡ n = omega arith in subst (λ (k : ℕ). Part f a n (Was j k) l) x p
    rows_mean j d (suc m) i l s b q p =
        let e = div f (left_of f a n i j l) d in
        unless_means _ _ RANGE _
        (λ t. at_entry i j l b (omega arith) p (rw (← q) (sym (all_one e) ∙ t)))
        (λ t.
        rows_mean j d m (i + 1) (set l (i * n + j) e) (omega arith) (omega arith)
        (q ∙ sym (kept_row small i j (omega arith) (omega arith) l e j j (omega arith) (λ g. omega arith)))
        (set_low i j b (omega arith) l e p (rw q) (sym (all_one e) ∙ t)))

    column_mean : (j : ℕ) (l : List Float) → j < n → Part f a n (Was j j) l → Means (Part f a n (Was (j + 1) (j + 1))) (worked (column_of f r a n j l))
    unfolding column_of worked
    column_mean j l h p =
        let e = root_of f (left_of f a n j j l) in
        unless_means _ _ (r j) _
        (λ t. at_pivot j l h p t)
        (λ t.
        made_to_end j (worked (rows_from f r a n j e (n - (j + 1)) (j + 1) (set l (j * n + j) e)))
        (rows_mean j e (n - (j + 1)) (j + 1) (set l (j * n + j) e) (omega arith) (omega arith)
        (sym (new small j j h (omega arith) l e p.long))
        (set_diag j h l e p t refl)))
      where
        made_to_end : (k : ℕ) (o : Outcome (List Float)) → Means (Part f a n (Was k n)) o → Means (Part f a n (Was (k + 1) (k + 1))) o
        made_to_end k (accepted z) q = shift k z q
        made_to_end k (refused s) q = q

    columns_mean : (m j : ℕ) (l : List Float) → j + m ≡ n → Part f a n (Was j j) l → Means (Lower f a n) (worked (columns_from f r a n m j l))
    unfolding columns_from worked
    columns_mean zero j l s p = record {
      long = p.long;
      diagonal = λ k h w. p.diagonal k h (inl (omega arith));
      lower = λ i k g h w. p.lower i k g h (inl (omega arith));
      upper = p.upper;
      rest = p.rest;
    }
    columns_mean (suc m) j l s p =
        rw (worked_then (column_of f r a n j l) (λ (k : List Float). columns_from f r a n m (j + 1) k))
        (onward_means (Part f a n (Was (j + 1) (j + 1))) (Lower f a n) (worked (column_of f r a n j l)) _ (column_mean j l (omega arith) p) (λ k q. columns_mean m (j + 1) k (omega arith) q))

    begun : Part f a n (Was 0 0) (zeros 64)
    begun = record {
      long = length_zeros 64;
      diagonal = λ k h w. ⊎_elim (λ q. absurd (omega arith)) (λ q. absurd (omega arith)) w;
      lower = λ s k g h w. ⊎_elim (λ q. absurd (omega arith)) (λ q. absurd (omega arith)) w;
      upper = λ s k g h. zeros_at 64 (s * n + k) (cell_in s k n (omega arith) h small);
      rest = λ p g h. zeros_at 64 p h;
    }

    factor_means : Means (Lower f a n) (worked (factor_of f r a n))
    factor_means = columns_mean n 0 (zeros 64) (omega arith) begun

    -- A WORK THAT IS ACCEPTED HAS MADE A FACTOR
    pub is_factor : (l : List Float) → worked (factor_of f r a n) ≡ accepted l → Lower f a n l
    is_factor l e = subst (Means (Lower f a n)) e factor_means

    -- A WORK THAT STOPPED HAS A REASON
    pub is_stopped : (q : Refusal) → worked (factor_of f r a n) ≡ refused q → Stopped q
    is_stopped q e = subst (Means (Lower f a n)) e factor_means
