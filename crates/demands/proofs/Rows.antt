-- Each row of the table of refusals, and each listed result, is a test: it fails just where the row's words hold. Assumes nothing.
use Prim.Native.Nat.{ℕ, zero, suc, ◌+◌, ◌*◌, ◌<◌, ◌≤◌}
use mathlib.Core.Path.{◌≡◌, refl, ap}
use mathlib.Core.Bool.{Bool, true, false, not, ◌&&◌}
use mathlib.Core.List.{List, [], ◌∷◌}
use mathlib.Core.Logic.{◌⊎◌, inl, inr, ⊎_elim}
use native.Mathlib.Nat.{mul-pos, zero-lt-suc}
use native.Mathlib.Omega.{arith}
use borrow.Author.Tests.{leb-true, leb-false, lt-ltb, le-ltb}
use lib.ListN.{length}
use lib.Dec.{leb}
use lib.Ieee.{Float, nan, inf, fin, Format, lt, add, up, down}
use lib.Ieee.Scale.{finite}
use lib.Ieee.Fits.{up_pos}
use Rattle.floats.specs.Numbers.{plus_zero, all_finite, above_zero}
use Rattle.root.specs.Definition.{rooted}
use Rattle.angles.specs.Wrap.{half_turn}
use Rattle.angles.specs.Kinds.{is_plain, half_of, passes}
use Rattle.angles.specs.Kinds.{Kind}
use Rattle.angles.specs.declared.Kind.TheVariants.{Plain, Turn}
use Rattle.matrix.specs.Results.{Result, numbers, pivot, rooting, good}
use Rattle.sigma.specs.Weights.{scale_of, w0m_of, w0c_of, wi_of, weights_pass}
use Rattle.filter.specs.Asked.{Size, Lent, of_numbers, of_bytes, Param, by_params, by_kind, in_range, within, long, fit, every}
use Rattle.demands.specs.Rows.{Some, here, there, NotFinite, NotAbove, Below, OutOfRange, Shorter, IsTurn, BadTurn, UnfitTurn, Unfit, Fails}

pub two_ways : {b : Bool} → b ≡ true → b ≡ false → ⊥
two_ways {b} h k = let z : ◌≡◌ {A = ℕ} 0 1 = cc in omega arith

-- the test t fails just where Bad holds
pub record Means (t : Bool) (Bad : Type 0) : Type 0 where
  pub fails : t ≡ false → Bad
  pub passes : t ≡ true → Bad → ⊥

-- ---- tests, put together

pub itself : (b : Bool) → Means b (b ≡ false)
itself b = record { fails = λ h. h; passes = λ h k. two_ways h k }

pub turned : (b : Bool) → Means (not b) (b ≡ true)
turned true = record { fails = λ h. refl; passes = λ h k. two_ways h refl }
turned false = record { fails = λ h. absurd (two_ways refl h); passes = λ h k. two_ways k refl }

always : {A : Type 0} → (A → ⊥) → Means true A
always n = record { fails = λ h. absurd (two_ways refl h); passes = λ h a. n a }

-- a test of two parts fails just where one of them does
pub either : {a b : Bool} {A B : Type 0} → Means a A → Means b B → Means (a && b) (A ⊎ B)
either {a = true} m n = record { fails = λ h. inr (n.fails h); passes = λ h w. ⊎_elim (λ x. m.passes refl x) (λ y. n.passes h y) w }
either {a = false} m n = record { fails = λ h. inl (m.fails refl); passes = λ h w. two_ways h refl }

-- where Bad holds the test fails
pub fails_where : {t : Bool} {A : Type 0} → Means t A → A → t ≡ false
fails_where {t = true} m a = absurd (m.passes refl a)
fails_where {t = false} m a = refl

-- where it doesn't, the test passes
pub passes_where : {t : Bool} {A : Type 0} → Means t A → (A → ⊥) → t ≡ true
passes_where {t = true} m n = refl
passes_where {t = false} m n = absurd (n (m.fails refl))

-- the same, said in other words
pub reworded : {t : Bool} {A B : Type 0} → (A → B) → (B → A) → Means t A → Means t B
reworded to back m = record { fails = λ h. to (m.fails h); passes = λ h b. m.passes h (back b) }

least : (a b : ℕ) → Means (leb a b) (b < a)
least a b = record { fails = λ h. leb-false a b h; passes = λ h k. let x : a ≤ b = leb-true a b h in omega arith }

module _ {A : Type 0} {P : A → Type 0} where
  pub none : Some P [] → ⊥
  none w = elim w [ ]

  joined : {x : A} {l : List A} → P x ⊎ Some P l → Some P (x ∷ l)
  joined w = ⊎_elim (λ b. here b) (λ s. there s) w

  pub parted : {x : A} {l : List A} → Some P (x ∷ l) → P x ⊎ Some P l
  parted (here b) = inl b
  parted (there w) = inr w

pub some : {A : Type 0} (t : A → Bool) (Bad : A → Type 0) → ((x : A) → Means (t x) (Bad x)) → (l : List A) → Means (every t l) (Some Bad l)
some t Bad m [] = always none
some t Bad m (x ∷ l) = reworded joined parted (either (m x) (some t Bad m l))

-- ---- the rows

pub ranged : (s : Size) → Means (within s) (OutOfRange s)
unfolding in_range
ranged s = either (least s.from s.value) (least s.value s.to)

pub lent_long : (l : Lent) → Means (long l) (Shorter l)
lent_long (of_numbers slice needs) = least needs (length slice)
lent_long (of_bytes slice needs) = least needs (length slice)

pub all_finite_lem : (l : List Float) → Means (all_finite l) (Some NotFinite l)
unfolding all_finite
all_finite_lem [] = always none
all_finite_lem (x ∷ l) = reworded joined parted (either (itself (finite x)) (all_finite_lem l))

pub is_turn : (k : Kind) → Means (is_plain k) (IsTurn k)
is_turn Plain = always (λ w. two_ways refl (ap is_plain w.1))
is_turn (Turn h) = record { fails = λ e. (h, refl); passes = λ e w. two_ways e refl }

pub is_above : (x : Float) → Means (above_zero x) (NotFinite x ⊎ NotAbove x)
unfolding above_zero
is_above x = either (itself (finite x)) (itself (lt plus_zero x))

pub half_turn_lem : (f : Format) (h : Float) → Means (half_turn f h) (NotAbove h ⊎ NotFinite (add f h h))
unfolding half_turn
half_turn_lem f h = either (itself (lt plus_zero h)) (itself (finite (add f h h)))

pub bad_turn : (k : Kind) → Means (finite (half_of k)) (BadTurn k)
bad_turn Plain = always (λ w. two_ways refl (ap is_plain w.1))
bad_turn (Turn h) = reworded (λ b. (h, refl, b)) (λ w. let e : half_of (Turn h) ≡ half_of (Turn w.0) = ap half_of w.1 in rw e w.2) (itself (finite h))

pub turn : (f : Format) (k : Kind) → Means (passes f k) (UnfitTurn f k)
turn f Plain = always (λ n. n)
turn f (Turn h) = half_turn_lem f h

pub fitting : (f : Format) (p : Param) → Means (fit f p) (Unfit f p)
unfolding weights_pass all_finite
fitting f (by_params n p) = either (is_above (scale_of f n p)) (either (itself (finite (w0m_of f n p))) (either (itself (finite (w0c_of f n p))) (last (finite (wi_of f n p)))))
  where
    last : (b : Bool) → Means (b && true) (b ≡ false)
    last true = always (λ e. two_ways refl e)
    last false = itself false
fitting f (by_kind k) = turn f k

-- ---- the results

pub rooted_means : (x : Float) → Means (rooted x) (NotFinite x ⊎ Below x)
unfolding rooted lt
rooted_means nan = record { fails = λ h. inl refl; passes = λ h w. two_ways h refl }
rooted_means (inf s) = record { fails = λ h. inl refl; passes = λ h w. two_ways h refl }
rooted_means (fin true zero e) = always (⊎_elim (λ h. two_ways refl h) (λ h. two_ways h (le-ltb 0 (0 * up e * 1 + 0 * 1 * down e) (omega arith))))
rooted_means (fin false zero e) = always (⊎_elim (λ h. two_ways refl h) (λ h. two_ways h (le-ltb (0 * up e * 1) (0 * 1 * down e) (omega arith))))
rooted_means (fin true (suc m) e) = record { fails = λ h. inr (lt-ltb 0 (suc m * up e * 1 + 0 * 1 * down e) (omega (arith, mul-pos (zero-lt-suc m) (up_pos e)))); passes = λ h w. two_ways h refl }
rooted_means (fin false (suc m) e) = always (⊎_elim (λ h. two_ways refl h) (λ h. two_ways h (le-ltb (suc m * up e * 1) (0 * 1 * down e) (omega arith))))

pub well : (v : Result) → Means (good v) (Fails v)
well (numbers v) = all_finite_lem v
well (pivot r x) = is_above x
well (rooting x) = rooted_means x
