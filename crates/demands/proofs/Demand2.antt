-- Demand 2: every number is worked out by document 01's steps, and the flat close's by those of document 02, bit for bit. The contracts say it: each names one definition, and says that all of the answer is it.
-- Here is a line for each step, which function's contract names which definition (at binary64 of an f64, at binary32 of an f32); under it, where the definition is not the document's own text, a law that it comes to that. Over every format. Assumes nothing.
use Prim.Native.Nat.{ℕ, zero, suc, ◌+◌, ◌-◌, ◌*◌, ◌<◌, ◌≤◌}
use mathlib.Core.Path.{◌≡◌, refl, sym, ap, ◌∙◌}
use mathlib.Core.Bool.{true, false}
use mathlib.Core.List.{List, []}
use native.Mathlib.Nat.{mul-le-mul}
use native.Mathlib.Omega.{arith}
use lib.Dec.{T}
use lib.IntN.{pos}
use lib.ListN.{get_or, take}
use lib.Ieee.{Float, nan, Format, fits, add, sub, mul, div, of_int}
use lib.Ieee.Scale.{finite}
use lib.Ieee.Fits.{add-fits, sub-fits, mul-fits, div-fits}
use Rattle.floats.specs.declared.Refusal.{Refusal}
use Rattle.floats.specs.declared.Refusal.TheVariants.{Pivot as PIVOT}
use Rattle.floats.specs.Refusal.{taken, Outcome, accepted}
use Rattle.floats.specs.Numbers.{plus_zero, zeros}
use Rattle.floats.specs.Fronts.{front}
use Rattle.root.specs.Definition.{root_of, rooted}
use Rattle.root.specs.Nearest.{Nearest}
use Rattle.root.specs.Answer.{root_outcome, Asked}
use Rattle.root.proofs.Answers.{nearest_root, asked, asked_only}
use Rattle.angles.specs.Wrap.{wrap_of}
use Rattle.angles.specs.Exact.{Wraps}
use Rattle.angles.specs.Kinds.{plain, through_of, kind_of}
use Rattle.angles.specs.Kinds.{Kind}
use Rattle.angles.specs.declared.Kind.TheVariants.{Turn}
use Rattle.angles.proofs.Exact.{wrap_exact, through_exact}
use Rattle.matrix.specs.Folds.{total_of}
use Rattle.matrix.specs.Sums.{product_at, plus_of, minus_of}
use Rattle.matrix.specs.Results.{worked, product, run}
use Rattle.matrix.specs.Factor.{factor_of}
use Rattle.matrix.specs.Inverse.{unit_at, forward_of, inverse_of}
use Rattle.matrix.specs.Product.{transb_of}
use Rattle.matrix.proofs.Cells.{total_same, placed, plus_placed, minus_placed, transb_filled, inverse_filled}
use Rattle.matrix.proofs.Flat.{row_before}
use Rattle.matrix.proofs.Results.{work_accepted}
use Rattle.matrix.proofs.FactorLaws.{is_factor}
use Rattle.matrix.proofs.InverseLaws.{forward_at_lem, inverse_at}
use Rattle.sigma.specs.Weights.{Params}
use Rattle.sigma.specs.Weights.{scale_of, w0m_of, w0c_of, wi_of, weights_of}
use Rattle.sigma.specs.Draw.{point_numbers, points_of, draw_plan}
use Rattle.sigma.specs.Mean.{mean_of}
use Rattle.sigma.specs.Spread.{deviation_at, deviations_of, spread_of}
use Rattle.sigma.specs.Predict.{Moment, predict_plan}
use Rattle.sigma.proofs.Accepted.{next}
use Rattle.sigma.proofs.Entries.{weight_first, weight_other, point_first, point_plus, point_minus, drawn_filled, mean_placed, deviations_filled, spread_filled}
use Rattle.correction.specs.Leaves.{innovation_at, innovation_of, shifted_at, shifted_of, widened, no_kinds}
use Rattle.correction.specs.Correct.{Head, apply_plan, Given, given, dz_of, weighted_head}
use Rattle.correction.specs.Flat.{flat_spread_of, flat_head}
use Rattle.correction.proofs.Entries.{flat_mean_placed, spread_entry, flat_entry, through_plain}
use Rattle.filter.specs.Types.{Filter}
use Rattle.filter.specs.declared.Stage.{Stage}
use Rattle.filter.specs.declared.Stage.TheVariants.{Predicting, Correcting}
use Rattle.filter.specs.Types.{Weighted}
use Rattle.filter.specs.Filters.{filter, with_drawn, closed_with}
use Rattle.filter.specs.Calls.{SetCall, setting, closing, closing_stepped, close_prediction_stepped, close_correction_stepped, close_correction_flat_stepped, open_prediction, open_correction, close_prediction, close_correction, close_correction_flat, weighted_from, flat_from}
use Rattle.filter.specs.Steps.{step}
use Rattle.demands.specs.Listed.{innovation, state, covariance}
use Rattle.demands.proofs.Passed.{ran_made}
use Rattle.demands.proofs.Accepted.{prediction_opened, correction_opened_afresh, correction_opened, prediction_closed, correction_closed, flat_correction_closed, stepped_closed}

abbrev at : List Float → ℕ → Float
at l i = get_or l i nan

-- where an entry of k rows of n lies
cell_before : (i k n j : ℕ) → i < k → j < n → i * n + j < k * n
cell_before i k n j h l = omega (arith, row_before i k n h)

-- ---- Root: `square_root` (crate root) is `root_outcome`: `root_of`, or 56 at 0

-- no value of the format is nearer to the exact root
pub root_nearest : (f : Format) (x : Float) → T (fits f x) → T (rooted x) → Nearest f x (root_of f x)
root_nearest = nearest_root

-- for every value of the format the outcome is what document 01 asks, and nothing else is
pub root_asked : (f : Format) (x : Float) → T (fits f x) → Asked f x (root_outcome f x)
root_asked = asked

pub root_only : (f : Format) (x : Float) (o : Outcome Float) → T (fits f x) → Asked f x o → o ≡ root_outcome f x
root_only = asked_only

-- so of two answers that are, each is the other
pub root_one : (f : Format) (x : Float) (a b : Outcome Float) → T (fits f x) → Asked f x a → Asked f x b → a ≡ b
root_one f x a b h k l = asked_only f x a h k ∙ sym (asked_only f x b h l)

module _ (f : Format) where
  -- ---- Wrap: `wrap` (crate angles) is `wrap_of`; a kind's `through` is `through_of`

  -- result and d differ by a whole multiple of 2h, and −h < result ≤ h; a zero has the sign of d
  pub wrap_is_exact : (d h w : Float) → T (fits f d) → T (fits f h) → wrap_of f d h ≡ accepted w → Wraps f d h w
  wrap_is_exact = wrap_exact f

  -- so does a finite difference passed through a turn that has passed its check
  pub turn_is_exact : (h d : Float) → T (fits f d) → T (finite d) → T (fits f h) → kind_of f (Turn h) ≡ accepted (Turn h) → Wraps f d h (through_of f (Turn h) d)
  turn_is_exact = through_exact f

  -- ---- What the four operations give is always a value of the format, and so are a pivot of values of the format, whose root is taken, and a difference that is passed through a turn: so the laws above speak of them

  pub operations_held : (x y : Float) → T (fits f (add f x y)) × T (fits f (sub f x y)) × T (fits f (mul f x y)) × T (fits f (div f x y))
  operations_held x y = (add-fits f x y, sub-fits f x y, mul-fits f x y, div-fits f x y)

  -- a pivot: what a value of the format is less products in turn
  pub pivot_held : (a : Float) (e : ℕ → Float) (j : ℕ) → T (fits f a) → T (fits f (total_of (sub f) a e j))
  unfolding total_of
  pivot_held a e zero h = h
  pivot_held a e (suc j) h = sub-fits f (total_of (sub f) a e j) (e j)

  -- ---- Weights: `compute_weights` (crate sigma) is `lambda_of`, `scale_of`, `w0m_of`, `w0c_of` and `wi_of`, the document's own lines; `weights` is `weights_of`

  -- kept with the points: w0c at k = 0 and else wi
  module _ (n : ℕ) (p : Params) (h : n ≤ 8) where
    pub weight_at_0 : at (weights_of f n p) 0 ≡ w0c_of f n p
    weight_at_0 = weight_first f n p h

    pub weight_at : (k : ℕ) → 0 < k → k ≤ n + n → at (weights_of f n p) k ≡ wi_of f n p
    weight_at = weight_other f n p h

  -- ---- Factor: `cholesky_decompose_lower` (crate matrix) is `factor_of`

  -- L[j][j] is the root of the pivot; under it A[i][j] less the products in turn, divided by L[j][j]; above it +0
  module _ (r : ℕ → Refusal) (a : List Float) (n : ℕ) (h : n ≤ 8) (l : List Float) (e : worked (factor_of f r a n) ≡ accepted l) where
    pub factor_diagonal : (j : ℕ) → j < n → at l (j * n + j) ≡ root_of f (total_of (sub f) (at a (j * n + j)) (λ (k : ℕ). mul f (at l (j * n + k)) (at l (j * n + k))) j)
    factor_diagonal j g = ((is_factor f r a n h l e).diagonal j g tt).root

    pub factor_under : (i j : ℕ) → j < i → i < n → at l (i * n + j) ≡ div f (total_of (sub f) (at a (i * n + j)) (λ (k : ℕ). mul f (at l (i * n + k)) (at l (j * n + k))) j) (at l (j * n + j))
    factor_under i j g k = ((is_factor f r a n h l e).lower i j g k tt).quotient

    pub factor_above : (i j : ℕ) → i < j → j < n → at l (i * n + j) ≡ plus_zero
    factor_above = (is_factor f r a n h l e).upper

  -- ---- Draw: `generate_sigma_points` (crate sigma) is `draw_plan`, run

  -- accepted, it has made the points of the factor of P and the root of N
  pub draw_makes : (n : ℕ) (x p : List Float) (scale : Float) (v : List Float) → run (draw_plan f n x p scale) ≡ accepted v → v ≡ points_of f n x (product (factor_of f PIVOT p n)) (root_of f scale)
  draw_makes n x p scale v e = ran_made (draw_plan f n x p scale) v e

  -- and that factor was accepted, so that the laws of the factor hold of it
  pub draw_factors : (n : ℕ) (x p : List Float) (scale : Float) (v : List Float) → run (draw_plan f n x p scale) ≡ accepted v → worked (factor_of f PIVOT p n) ≡ accepted (product (factor_of f PIVOT p n))
  draw_factors n x p scale v e = let t = next _ _ v e in t.1 ∙ ap accepted ((work_accepted (factor_of f PIVOT p n) t.0).0 t.1).1

  -- point 0 is x, point j+1 is x[i] + s·L[i][j], point j+1+n is x[i] − s·L[i][j]
  module _ (n : ℕ) (x l : List Float) (s : Float) (h : n ≤ 8) (i : ℕ) (g : i < n) where
    pub point_at_0 : at (points_of f n x l s) (0 * n + i) ≡ at x i
    point_at_0 = (drawn_filled f n x l s h).cell 0 i (omega arith) g ∙ point_first f n x l s i

    pub point_at_plus : (j : ℕ) → j < n → at (points_of f n x l s) ((j + 1) * n + i) ≡ add f (at x i) (mul f s (at l (i * n + j)))
    point_at_plus j k =
        let e : j + 1 - 1 ≡ j = omega arith in
        (drawn_filled f n x l s h).cell (j + 1) i (omega arith) g ∙ point_plus f n x l s (j + 1) i (omega arith) (omega arith) ∙ ap (λ (c : ℕ). add f (at x i) (mul f s (at l (i * n + c)))) e

    pub point_at_minus : (j : ℕ) → j < n → at (points_of f n x l s) ((j + 1 + n) * n + i) ≡ sub f (at x i) (mul f s (at l (i * n + j)))
    point_at_minus j k =
        let e : j + 1 + n - 1 - n ≡ j = omega arith in
        (drawn_filled f n x l s h).cell (j + 1 + n) i (omega arith) g ∙ point_minus f n x l s (j + 1 + n) i (omega arith) ∙ ap (λ (c : ℕ). sub f (at x i) (mul f s (at l (i * n + c)))) e

  -- ---- Anchored mean: `anchored_mean` (crate sigma) is `mean_of`

  -- weightsum·point0 + offset, over the points 1 to t, t being 2n
  pub mean_at : (p : List Float) (d t : ℕ) (w0m : Float) (w : List Float) (kinds : List Kind) → d ≤ 8 → (i : ℕ) → i < d
      → at (mean_of f p d t w0m w kinds) i
      ≡ add f (mul f (total_of (add f) w0m (λ (k : ℕ). at w (k + 1)) t) (at p i))
      (total_of (add f) plus_zero (λ (k : ℕ). mul f (at w (k + 1)) (through_of f (get_or kinds i plain) (sub f (at p ((k + 1) * d + i)) (at p i)))) t)
  mean_at p d t w0m w kinds h = (mean_placed f p d t w0m w kinds h).place

  -- ---- Covariance, S and the cross covariance: `deviations` and `spread` (crate sigma) are `deviations_of` and `spread_of`; `plus` (crate matrix) is `plus_of`

  -- point minus mean through the kinds
  pub deviation_at_lem : (p : List Float) (d t : ℕ) (mean : List Float) (kinds : List Kind) → t < 17 → d ≤ 8 → (k i : ℕ) → k < t + 1 → i < d
      → at (deviations_of f p d t mean kinds) (k * d + i) ≡ through_of f (get_or kinds i plain) (sub f (at p (k * d + i)) (at mean i))
  deviation_at_lem p d t mean kinds g h = (deviations_filled f p d t mean kinds g h).cell

  -- from +0, for each k, add w·a[i]·b[j]: each entry for itself
  pub spread_at : (a : List Float) (da : ℕ) (b : List Float) (db : ℕ) (w : List Float) (t : ℕ) → da ≤ 8 → db ≤ 8 → (i j : ℕ) → i < da → j < db
      → at (spread_of f a da b db w t) (i * db + j) ≡ total_of (add f) plus_zero (λ (k : ℕ). mul f (mul f (at w k) (at a (k * da + i))) (at b (k * db + j))) (t + 1)
  spread_at a da b db w t g h = (spread_filled f a da b db w t g h).cell

  -- then Q + P, and R + S
  pub plus_at : (n : ℕ) (q p : List Float) → n ≤ 8 → (i : ℕ) → i < n * n → at (plus_of f (n * n) q p) i ≡ add f (at q i) (at p i)
  plus_at n q p h = (plus_placed f (n * n) q p (mul-le-mul h h)).place

  -- `reconstruct_prediction` (crate sigma) is `predict_plan`, run: accepted, it has made the mean, and Q + P
  pub prediction_makes : (n : ℕ) (points : List Float) (w0m : Float) (w : List Float) (kinds : List Kind) (q : List Float) (m : Moment) → run (predict_plan f n points w0m w kinds q) ≡ accepted m
      → m ≡ (let mean = mean_of f points n (n + n) w0m w kinds in let dx = deviations_of f points n (n + n) mean kinds in record { x = mean; p = plus_of f (n * n) q (spread_of f dx n dx n w (n + n)) })
  prediction_makes n points w0m w kinds q m e = ran_made (predict_plan f n points w0m w kinds q) m e

  -- ---- Inverse: `invert_l_cholesky` (crate matrix) is `inverse_of`

  module _ (l : List Float) (m : ℕ) (h : m ≤ 8) (i c : ℕ) (g : i < m) where
    -- u[i] = (1 if i = c, else 0, minus L[i][k]·u[k] for k below i in turn)/L[i][i], u being `forward_of`
    pub inverse_forward : at (forward_of f l m c) i ≡ div f (total_of (sub f) (unit_at f c i) (λ (k : ℕ). mul f (at l (i * m + k)) (at (forward_of f l m c) k)) i) (at l (i * m + i))
    inverse_forward = forward_at_lem f l m h c i g

    -- then from the last i down, v[i] = (u[i] minus L[k][i]·v[k] for k = i+1 upward)/L[i][i], v being column c of the inverse
    pub inverse_entry : c < m
        → at (inverse_of f l m) (i * m + c)
        ≡ div f (total_of (sub f) (at (forward_of f l m c) i) (λ (k : ℕ). mul f (at l ((i + 1 + k) * m + i)) (at (inverse_of f l m) ((i + 1 + k) * m + c))) (m - (i + 1))) (at l (i * m + i))
    inverse_entry k =
        inverse_at f l m h i c g k
        ∙ ap (λ (t : Float). div f t (at l (i * m + i)))
        (total_same (sub f) (at (forward_of f l m c) i) _ _ (m - (i + 1)) (λ j q. ap (mul f (at l ((i + 1 + j) * m + i))) (sym ((inverse_filled f l m h).cell (i + 1 + j) c (omega arith) k))))

  -- ---- Gain and T: `mult_transb` (crate matrix) is `transb_of`

  -- K[i][j] = sum of C[i][k]·V[j][k]; T[i][j] = sum of C[i][k]·K[j][k]
  pub transb_at : (a b : List Float) (d n m : ℕ) → n ≤ 8 → m ≤ 8 → (i j : ℕ) → i < n → j < m
      → at (transb_of f a b d n m) (i * m + j) ≡ total_of (add f) plus_zero (λ (k : ℕ). mul f (at a (i * d + k)) (at b (j * d + k))) d
  transb_at a b d n m g h = (transb_filled f a b d n m g h).cell

  -- ---- y, x and P: `innovation` and `shifted` (crate correction) are `innovation_of` and `shifted_of`; `minus` (crate matrix) is `minus_of`

  -- y = z − z mean, through the measurement kinds
  pub innovation_at_lem : (m : ℕ) (z mean : List Float) (kinds : List Kind) → m ≤ 8 → (j : ℕ) → j < m → at (innovation_of f m z mean kinds) j ≡ through_of f (get_or kinds j plain) (sub f (at z j) (at mean j))
  innovation_at_lem m z mean kinds h = (placed (innovation_at f z mean kinds) m 8 h).place

  -- x[i] = x[i] + sum of K[i][j]·y[j]
  pub shifted_at_lem : (n m : ℕ) (x k y : List Float) → n ≤ 8 → (i : ℕ) → i < n → at (shifted_of f n m x k y) i ≡ add f (at x i) (total_of (add f) plus_zero (λ (j : ℕ). mul f (at k (i * m + j)) (at y j)) m)
  shifted_at_lem n m x k y h i g =
      (placed (shifted_at f m x k y) n 8 h).place i g
      ∙ ap (add f (at x i)) (total_same (add f) plus_zero (product_at f k (i * m) y 0) _ m (λ j l. let e : 0 + j ≡ j = omega arith in ap (λ (c : ℕ). mul f (at k (i * m + j)) (at y c)) e))

  -- P = P − T
  pub minus_at : (n : ℕ) (p t : List Float) → n ≤ 8 → (i : ℕ) → i < n * n → at (minus_of f (n * n) p t) i ≡ sub f (at p i) (at t i)
  minus_at n p t h = (minus_placed f (n * n) p t (mul-le-mul h h)).place

  -- `apply_correction` (crate correction), which both closes end in, is `apply_plan`, run: accepted, it has made the x and P at the end of the chain that specs/Listed.antt writes out
  pub correction_makes : (h : Head) (m : Moment) → run (apply_plan f h) ≡ accepted m → m ≡ record { x = state f h; p = covariance f h }
  correction_makes h m e = ran_made (apply_plan f h) m e

  -- ---- From where they start. `correct_with_weights_residuals` is `correct_plan`, the shared steps from `weighted_head` on: anchored means; per entry of S, R + the sum of w·dz[i]·dz[j]; of C, the sum of w·dx[i]·dz[j]

  module _ (g : Given) (h : g.n ≤ 8) (o : g.m ≤ 8) where
    abbrev weighted : Head
    weighted = weighted_head f g

    pub weighted_means : (weighted.zm ≡ mean_of f g.observed g.m (g.n + g.n) g.w0m g.w g.measured) × (weighted.xm ≡ mean_of f g.points g.n (g.n + g.n) g.w0m g.w g.kinds)
    weighted_means = (refl, refl)

    pub weighted_s : (i j : ℕ) → i < g.m → j < g.m
        → at weighted.s (i * g.m + j)
        ≡ add f (at g.r (i * g.m + j)) (total_of (add f) plus_zero (λ (k : ℕ). mul f (mul f (at g.w k) (deviation_at f g.observed g.m weighted.zm g.measured k i)) (deviation_at f g.observed g.m weighted.zm g.measured k j)) (g.n + g.n + 1))
    weighted_s i j k l = let dz = dz_of f g weighted.zm in plus_at g.m g.r (spread_of f dz g.m dz g.m g.w (g.n + g.n)) o (i * g.m + j) (cell_before i g.m g.m j k l) ∙ ap (add f _) (spread_entry f g.observed g.m weighted.zm g.observed g.m weighted.zm (g.n + g.n) (omega arith) o o i j k l g.measured g.measured g.w)

    pub weighted_c : (i j : ℕ) → i < g.n → j < g.m
        → at weighted.c (i * g.m + j)
        ≡ total_of (add f) plus_zero (λ (k : ℕ). mul f (mul f (at g.w k) (deviation_at f g.points g.n weighted.xm g.kinds k i)) (deviation_at f g.observed g.m weighted.zm g.measured k j)) (g.n + g.n + 1)
    weighted_c i j k l = spread_entry f g.points g.n weighted.xm g.observed g.m weighted.zm (g.n + g.n) (omega arith) h o i j k l g.kinds g.measured g.w

    -- with the sizes, the stored x and P, and z with its kinds
    pub weighted_keeps : (weighted.n ≡ g.n) × (weighted.m ≡ g.m) × (weighted.x ≡ g.x) × (weighted.p ≡ g.p) × (weighted.z ≡ g.z) × (weighted.measured ≡ g.measured)
    weighted_keeps = (refl, refl, refl, refl, refl, refl)

  -- The flat close (document 02, A1). `correct_nonlinear` is `flat_plan`, the shared steps from `flat_head` on: per entry a sum from +0 over all 2n+1 points, divided by 2n+1; no kinds, no weights

  module _ (n m : ℕ) (x p points observed z r : List Float) (h : n ≤ 8) (o : m ≤ 8) where
    abbrev flat : Head
    flat = flat_head f n m x p points observed z r

    abbrev average : (ℕ → Float) → Float
    average e = div f (total_of (add f) plus_zero e (n + n + 1)) (of_int f (pos (n + n + 1)))

    -- z mean and x mean
    pub flat_z_mean : (j : ℕ) → j < m → at flat.zm j ≡ average (λ (k : ℕ). at observed (k * m + j))
    flat_z_mean = (flat_mean_placed f observed m (n + n) o).place

    pub flat_x_mean : (i : ℕ) → i < n → at flat.xm i ≡ average (λ (k : ℕ). at points (k * n + i))
    flat_x_mean = (flat_mean_placed f points n (n + n) h).place

    -- S and C: each product of two differences rounded, summed, the sum divided; then R + S
    pub flat_s : (i j : ℕ) → i < m → j < m
        → at flat.s (i * m + j) ≡ add f (at r (i * m + j)) (average (λ (k : ℕ). mul f (sub f (at observed (k * m + i)) (at flat.zm i)) (sub f (at observed (k * m + j)) (at flat.zm j))))
    flat_s i j k l = let dz = deviations_of f observed m (n + n) flat.zm no_kinds in plus_at m r (flat_spread_of f dz m dz m (n + n)) o (i * m + j) (cell_before i m m j k l) ∙ ap (add f _) (flat_entry f observed m flat.zm observed m flat.zm (n + n) (omega arith) o o i j k l)

    pub flat_c : (i j : ℕ) → i < n → j < m → at flat.c (i * m + j) ≡ average (λ (k : ℕ). mul f (sub f (at points (k * n + i)) (at flat.xm i)) (sub f (at observed (k * m + j)) (at flat.zm j)))
    flat_c i j k l = flat_entry f points n flat.xm observed m flat.zm (n + n) (omega arith) h o i j k l

    -- y = z − z mean
    pub flat_y : (j : ℕ) → j < m → at (innovation f flat) j ≡ sub f (at z j) (at flat.zm j)
    flat_y j l = innovation_at_lem m z flat.zm no_kinds o j l ∙ through_plain f j _ (omega arith)

    -- with the sizes, the stored x and P, and z
    pub flat_keeps : (flat.n ≡ n) × (flat.m ≡ m) × (flat.x ≡ x) × (flat.p ≡ p) × (flat.z ≡ z)
    flat_keeps = (refl, refl, refl, refl, refl)

  -- ---- The calls: every method of `Filter` (crate filter) and every public function of crate `stepped` is `step`, by the table in filter/specs/Calls.antt: which of these plans a call runs, on what, and what it installs

  -- A close of a correction gives its steps the sizes, the stored x and P, what was opened, and of z, R and the observed points the numbers in use, +0 past them; the weighted one also w0m by the parameters, the opened weights and the kinds.
  module _ (s : Filter) (m : ℕ) (z r observed : List Float) where
    abbrev of_z : List Float
    of_z = front m z (zeros 8)

    abbrev of_r : List Float
    of_r = front (m * m) r (zeros 64)

    abbrev of_observed : List Float
    of_observed = front ((s.sheet.n + s.sheet.n + 1) * m) observed (zeros 136)

    pub correction_from : (kinds : List Kind)
        → weighted_from f s m z r kinds observed ≡ weighted_head f (given s.sheet.n m s.track.x s.track.p s.track.drawn_points of_observed (w0m_of f s.sheet.n s.sheet.params) s.track.drawn_weights of_z of_r s.sheet.kinds (widened kinds))
    correction_from kinds = refl

    pub flat_correction_from : flat_from f s m z r observed ≡ flat_head f s.sheet.n m s.track.x s.track.p s.track.drawn_points of_observed of_z of_r
    flat_correction_from = refl

  -- An accepted open leaves the filter as it was, with what it has drawn beside it (`with_drawn` of filter/specs/Filters.antt), and hands out those points (the reply's `stale` says something only where the mark is read):
  module _ (s : Filter) (b : List Float) where
    abbrev Opens : SetCall → Stage → Weighted → Type 0
    Opens c t d = step f s (setting c) ≡ record { filter = filter s.sheet (with_drawn s.track t d); reply = record { refusal = taken; given = take (point_numbers s.sheet.n) d.points; stale = true; bytes = [] } }

    -- a prediction, and a correction while stale, the points v that the draw from x and P gives by the parameters, with their weights;
    abbrev Draws : SetCall → Stage → Type 0
    Draws c t = (v : List Float) × (run (draw_plan f s.sheet.n s.track.x s.track.p (scale_of f s.sheet.n s.sheet.params)) ≡ accepted v) × Opens c t (record { weights = weights_of f s.sheet.n s.sheet.params; points = v })

    pub prediction_opens : (step f s (setting (open_prediction b))).reply.refusal.number ≡ 0 → Draws (open_prediction b) Predicting
    prediction_opens = prediction_opened f s b

    pub stale_correction_opens : s.track.stale ≡ true → (step f s (setting (open_correction b))).reply.refusal.number ≡ 0 → Draws (open_correction b) Correcting
    stale_correction_opens = correction_opened_afresh f s b

    -- a correction while not stale the current ones.
    pub correction_opens : s.track.stale ≡ false → (step f s (setting (open_correction b))).reply.refusal.number ≡ 0 → Opens (open_correction b) Correcting (record { weights = s.track.weights; points = s.track.points })
    correction_opens = correction_opened f s b

  -- An accepted close sets x and P to what its steps have made, installs points and the opened weights, sets the mark, and leaves nothing open and scratch at +0 (`closed_with` of filter/specs/Filters.antt):
  -- a prediction the propagated points, and it is not stale;
  pub prediction_installs : (s : Filter) (v : List Float) → (step f s (closing (close_prediction v))).reply.refusal.number ≡ 0
      → (step f s (closing (close_prediction v))).filter
      ≡ (let points = front (point_numbers s.sheet.n) v (zeros 136) in
      let mean = mean_of f points s.sheet.n (s.sheet.n + s.sheet.n) (w0m_of f s.sheet.n s.sheet.params) s.track.drawn_weights s.sheet.kinds in
      let dx = deviations_of f points s.sheet.n (s.sheet.n + s.sheet.n) mean s.sheet.kinds in
      closed_with s points false mean (plus_of f (s.sheet.n * s.sheet.n) s.sheet.q (spread_of f dx s.sheet.n dx s.sheet.n s.track.drawn_weights (s.sheet.n + s.sheet.n))))
  prediction_installs = prediction_closed f

  -- a correction of either sort the opened points, and it is stale.
  pub correction_installs : (s : Filter) (m : ℕ) (z r : List Float) (kinds : List Kind) (observed : List Float) → (step f s (closing (close_correction m z r kinds observed))).reply.refusal.number ≡ 0
      → (step f s (closing (close_correction m z r kinds observed))).filter ≡ (let h = weighted_from f s m z r kinds observed in closed_with s s.track.drawn_points true (state f h) (covariance f h))
  correction_installs = correction_closed f

  pub flat_correction_installs : (s : Filter) (m : ℕ) (z r observed : List Float) → (step f s (closing (close_correction_flat m z r observed))).reply.refusal.number ≡ 0
      → (step f s (closing (close_correction_flat m z r observed))).filter ≡ (let h = flat_from f s m z r observed in closed_with s s.track.drawn_points true (state f h) (covariance f h))
  flat_correction_installs = flat_correction_closed f

  -- A stepped open (document 02, A7) leaves and draws the same at a stage of its own, and a stepped close is the whole-list close on the images that are in (`open_is_whole` and `close_is_whole` in EitherWay): it installs the images of a prediction,
  pub stepped_prediction_installs : (s : Filter) → let c = closing_stepped close_prediction_stepped in (step f s c).reply.refusal.number ≡ 0
      → (step f s c).filter
      ≡ (let points = front (point_numbers s.sheet.n) s.track.kept.images (zeros 136) in
      let mean = mean_of f points s.sheet.n (s.sheet.n + s.sheet.n) (w0m_of f s.sheet.n s.sheet.params) s.track.drawn_weights s.sheet.kinds in
      let dx = deviations_of f points s.sheet.n (s.sheet.n + s.sheet.n) mean s.sheet.kinds in
      closed_with s points false mean (plus_of f (s.sheet.n * s.sheet.n) s.sheet.q (spread_of f dx s.sheet.n dx s.sheet.n s.track.drawn_weights (s.sheet.n + s.sheet.n))))
  stepped_prediction_installs s = stepped_closed f s close_prediction_stepped

  -- and the opened points in a correction.
  pub stepped_correction_installs : (s : Filter) (m : ℕ) (z r : List Float) (kinds : List Kind) → let c = closing_stepped (close_correction_stepped m z r kinds) in (step f s c).reply.refusal.number ≡ 0
      → (step f s c).filter ≡ (let h = weighted_from f s m z r kinds s.track.kept.images in closed_with s s.track.drawn_points true (state f h) (covariance f h))
  stepped_correction_installs s m z r kinds = stepped_closed f s (close_correction_stepped m z r kinds)

  pub stepped_flat_correction_installs : (s : Filter) (m : ℕ) (z r : List Float) → let c = closing_stepped (close_correction_flat_stepped m z r) in (step f s c).reply.refusal.number ≡ 0
      → (step f s c).filter ≡ (let h = flat_from f s m z r s.track.kept.images in closed_with s s.track.drawn_points true (state f h) (covariance f h))
  stepped_flat_correction_installs s m z r = stepped_closed f s (close_correction_flat_stepped m z r)
