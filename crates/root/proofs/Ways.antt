-- What the bits tell on each way through the root's code, over the format: the laws that its functions cite. Assumes nothing.
use mathlib.Core.Path.{◌≡◌, sym, ap, ◌∙◌, subst}
use mathlib.Core.Bool.{Bool, true, false, not, cond}
use Prim.Native.Nat.{ℕ, suc, ◌+◌, ◌-◌, ◌*◌, ◌/◌, ◌%◌, ◌^◌, ◌≤◌, ◌<◌}
use native.Mathlib.Nat.{lt_of_lt_of_le, mod-eq_of_lt, mod-lt}
use native.Mathlib.Omega.{arith}
use borrow.Author.Tests.{lt-ltb, le-ltb}
use lib.Bits.{bit_and, bit_or, and_mask, or_shifted, or_shifted_r}
use lib.Count.{count_leading_zeros}
use lib.Dec.{T, ltb, lit≤}
use lib.Pow.{pow_pos, pow_mono}
use lib.Ieee.{Float, Format, binary32, binary64, prec, hid, ones, top, of_bits, ne, nan_bits}
use lib.Ieee.Bits.{nan_bits_above}
use Rattle.floats.specs.Refusal.{bad_lone, refused, accepted}
use Rattle.root.specs.Definition.{near_root, nearest_of, root_units, root_of, rooted}
use Rattle.root.specs.Answer.{root_outcome}
use Rattle.root.proofs.Scaled.{lift, evened, scaled_bits, normal, moved_same, shifts, prec_pos}
use Rattle.root.proofs.Values.{zero_bits, refused_bits, rooted_bits, low_root, bits_root, is_nan_lem}

-- a d with few enough digits
pub few_near : (f : Format) {d q : ℕ} → d < 2 ^ (prec f + 1) → q ≡ nearest_of f d → q ≡ near_root (prec f) (d * hid f)
few_near f {d} h e = e ∙ ap (λ (t : Bool). cond t (near_root (prec f) (d * hid f)) 0) (lt-ltb d (2 ^ (prec f + 1)) h)

-- ---- how the bits are laid out, by the shift p and by the masks that the code makes of l and of s
masked : (f : Format) (b : ℕ) {l : ℕ} → l ≡ hid f → bit_and b (l - 1) ≡ b % hid f
masked f b L = ap (λ (x : ℕ). bit_and b (x - 1)) L ∙ and_mask b (prec f - 1)

pub unsigned : (f : Format) (b : ℕ) {s : ℕ} → s ≡ top f → bit_and b (s - 1) ≡ b % top f
unsigned f b S = ap (λ (x : ℕ). bit_and b (x - 1)) S ∙ go f b
  where
    go : (f : Format) (b : ℕ) → bit_and b (top f - 1) ≡ b % top f
    go binary32 b = and_mask b 31
    go binary64 b = and_mask b 63

pub field_from : (f : Format) (b : ℕ) {p i : ℕ} → p ≡ prec f - 1 → i ≡ ones f → i ≤ b / 2 ^ p → ones f * hid f ≤ b
field_from f b P I h = go f b (rw (P, I) at h)
  where
    go : (f : Format) (b : ℕ) → ones f ≤ b / hid f → ones f * hid f ≤ b
    go binary32 b h = omega arith
    go binary64 b h = omega arith

pub field_below : (f : Format) (b : ℕ) {p i : ℕ} → p ≡ prec f - 1 → i ≡ ones f → b / 2 ^ p < i → b < ones f * hid f
field_below f b P I h = go f b (rw (P, I) at h)
  where
    go : (f : Format) (b : ℕ) → b / hid f < ones f → b < ones f * hid f
    go binary32 b h = omega arith
    go binary64 b h = omega arith

-- ---- `square_root`: a NaN, a zero, what is refused by its bits, and what has a root
some : (f : Format) (b : ℕ) → (b % top f ≡ 0 → ⊥) → 0 < b
some binary32 b h = omega (arith, h)
some binary64 b h = omega (arith, h)

module _ (f : Format) (x : Float) where
  has_none : rooted x ≡ false → refused bad_lone ≡ root_outcome f x
  has_none e = rw e

  has : {r : Float} → rooted x ≡ true → r ≡ root_of f x → accepted r ≡ root_outcome f x
  has e k = rw (e, k)

  pub nan_out : ne x x ≡ true → refused bad_lone ≡ root_outcome f x
  nan_out h = has_none (is_nan_lem x h)

  module _ (b : ℕ) (back : of_bits f b ≡ x) where
    pub zero_out : b % top f ≡ 0 → accepted x ≡ root_outcome f x
    zero_out h = let z = subst (λ (v : Float). (rooted v ≡ true) × (root_of f v ≡ v)) back (zero_bits f b h) in has z.0 (sym z.1)

    module _ (more : b % top f ≡ 0 → ⊥) where
      pub refused_out : ones f * hid f ≤ b → refused bad_lone ≡ root_outcome f x
      refused_out h = has_none (subst (λ (v : Float). rooted v ≡ false) back (refused_bits f b more h))

      pub root_out : b < ones f * hid f → {r : Float} → r ≡ root_of f (of_bits f b) → accepted r ≡ root_outcome f x
      root_out h k = has (subst (λ (v : Float). rooted v ≡ true) back (rooted_bits f b (some f b more) h)) (k ∙ ap (root_of f) back)

-- ---- `positive_root`: the fraction t of a subnormal, moved up by its leading zeros but for o, has all the format's digits, and none of them is lost in 64 bits
pub record Moved (f : Format) (t o : ℕ) : Type 0 where
  pub zeros : o ≤ count_leading_zeros 64 t
  pub few : count_leading_zeros 64 t - o ≤ prec f - 1
  pub lo : hid f ≤ t * 2 ^ (count_leading_zeros 64 t - o) % 2 ^ 64
  pub hi : t * 2 ^ (count_leading_zeros 64 t - o) % 2 ^ 64 < 2 ^ prec f
  pub kept : t * 2 ^ (count_leading_zeros 64 t - o) % 2 ^ 64 ≡ t * 2 ^ (count_leading_zeros 64 t - o)

digits_in : (f : Format) → prec f ≤ 64
digits_in binary32 = lit≤ tt
digits_in binary64 = lit≤ tt

moved : (f : Format) (t : ℕ) → 0 < t → t < 2 ^ prec f → Moved f t (64 - prec f)
moved f t a h =
    let w = digits_in f in
    let n = normal 64 (prec f) t (prec_pos f) w a h in
    let k : t * 2 ^ (count_leading_zeros 64 t - (64 - prec f)) % 2 ^ 64 ≡ t * 2 ^ (count_leading_zeros 64 t - (64 - prec f)) = mod-eq_of_lt (lt_of_lt_of_le n.3 (pow_mono w)) in
    record { zeros = n.0; few = n.1; lo = subst (λ (x : ℕ). hid f ≤ x) (sym k) n.2; hi = subst (λ (x : ℕ). x < 2 ^ prec f) (sym k) n.3; kept = k }

others : (f : Format) {p : ℕ} → p ≡ prec f - 1 → 63 - p ≡ 64 - prec f
others f P = let q = prec_pos f in omega arith

module _ (f : Format) (b : ℕ) {l : ℕ} (L : l ≡ hid f) where
  -- as the code masks it out of the bits b
  abbrev pub fraction : ℕ
  fraction = bit_and b (l - 1)

  -- as the code puts the leading digit before it
  pub led : {m : ℕ} → m ≡ hid f → bit_or fraction m ≡ hid f + b % hid f
  led M = rw (masked f b L, M) (subst (λ (x : ℕ). bit_or (b % hid f) x ≡ hid f + b % hid f) (one (hid f)) (or_shifted_r 1 (prec f - 1) (b % hid f) (mod-lt b (pow_pos (prec f - 1))) ∙ ap (λ (x : ℕ). x + b % hid f) (one (hid f))))
    where
      one : (h : ℕ) → 1 * h ≡ h
      one h = omega arith

  module _ {p : ℕ} (P : p ≡ prec f - 1) (a : 0 < b) (h : b / 2 ^ p ≡ 0) where
    small : b < hid f
    small = go f b (rw P at h)
      where
        go : (f : Format) (b : ℕ) → b / hid f ≡ 0 → b < hid f
        go binary32 b h = omega arith
        go binary64 b h = omega arith

    all : fraction ≡ b
    all = masked f b L ∙ mod-eq_of_lt small

    pub subnormal : {o : ℕ} → o ≡ prec f - 1 → Moved f fraction (63 - o)
    subnormal O = rw (others f O, all) (moved f b a (lt_of_lt_of_le small (pow_mono (less (prec f)))))
      where
        less : (k : ℕ) → k - 1 ≤ k
        less k = omega arith

    -- what `normal_root` ensures of it is the root
    pub low_out : {o e : ℕ} (O : o ≡ prec f - 1) → e ≡ lift f - (count_leading_zeros 64 fraction - (63 - o)) → {r : Float}
        → ((n : ℕ) → n * 2 ^ lift f ≡ fraction * 2 ^ (count_leading_zeros 64 fraction - (63 - o)) % 2 ^ 64 * 2 ^ e → r ≡ root_units f n)
        → r ≡ root_of f (of_bits f b)
    low_out {o} {e} O E k =
        let z = count_leading_zeros 64 fraction - (63 - o) in
        let m = subnormal O in
        let i : 0 + lift f - z ≡ e = omega (arith, E) in
        k (fraction * 2 ^ 0) (moved_same f fraction z 0 m.few ∙ ap (λ (x : ℕ). fraction * 2 ^ z * 2 ^ x) i ∙ ap (λ (x : ℕ). x * 2 ^ e) (sym m.kept))
        ∙ ap (λ (x : ℕ). root_units f (x * 2 ^ 0)) all ∙ sym (low_root f b a small)

  -- the same with an exponent's field
  pub high_out : {p w m : ℕ} → p ≡ prec f - 1 → w ≡ lift f → (M : m ≡ hid f) → {r : Float} → (b / 2 ^ p ≡ 0 → ⊥) → b < ones f * hid f
      → ((n : ℕ) → n * 2 ^ lift f ≡ bit_or fraction m * 2 ^ (b / 2 ^ p + w - 1) → r ≡ root_units f n) → r ≡ root_of f (of_bits f b)
  high_out {p} {w} {m} P W M l h k =
      let v = hid f + b % hid f in
      let x = b / hid f - 1 in
      let t = field f b (rw P at l) in
      k (v * 2 ^ x) (shifts v x (lift f) ∙ ap (λ (y : ℕ). v * 2 ^ y) (exponent f b t ∙ rw (P, W)) ∙ ap (λ (y : ℕ). y * 2 ^ (b / 2 ^ p + w - 1)) (sym (led M))) ∙ sym (bits_root f b t h)
    where
      field : (f : Format) (b : ℕ) → (b / hid f ≡ 0 → ⊥) → hid f ≤ b
      field binary32 b l = omega (arith, l)
      field binary64 b l = omega (arith, l)

      exponent : (f : Format) (b : ℕ) → hid f ≤ b → b / hid f - 1 + lift f ≡ b / hid f + lift f - 1
      exponent binary32 b l = omega arith
      exponent binary64 b l = omega arith

-- ---- `normal_root`: the bits put together from the exponent's field and the digits q
module _ (f : Format) (s a : ℕ) (lo : hid f ≤ s) (hi : s < 2 ^ prec f) (small : a / 2 + 1 < ones f) {d q p l : ℕ} (D : d ≡ evened s a) (Q : q ≡ near_root (prec f) (d * hid f)) (P : p ≡ prec f - 1) (L : l ≡ hid f) where
  abbrev bits : ℕ
  bits = bit_or ((a / 2 + 1) * 2 ^ p % 2 ^ 64) (bit_and q (l - 1))

  small_suc : suc (a / 2) < ones f
  small_suc = omega arith

  rebuilt : bits ≡ suc (a / 2) * hid f + q % hid f
  rebuilt = rw (masked f q L, P) (ap (λ (x : ℕ). bit_or x (q % hid f)) (shifted f (a / 2) small) ∙ or_shifted (suc (a / 2)) (prec f - 1) (q % hid f) (mod-lt q (pow_pos (prec f - 1))))
    where
      shifted : (f : Format) (x : ℕ) → x + 1 < ones f → (x + 1) * hid f % 2 ^ 64 ≡ suc x * hid f
      shifted binary32 x h = omega arith
      shifted binary64 x h = omega arith

  pub bits_in : bits < 2 * top f
  bits_in = rw rebuilt (below f (a / 2) (q % hid f) small (mod-lt q (pow_pos (prec f - 1))))
    where
      below : (f : Format) (x t : ℕ) → x + 1 < ones f → t < hid f → suc x * hid f + t < 2 * top f
      below binary32 x t h k = omega arith
      below binary64 x t h k = omega arith

  pub no_nan_out : T (not (nan_bits f bits))
  no_nan_out = subst (λ (t : Bool). T (not t)) (sym (ap (nan_bits f) rebuilt ∙ nan_bits_above f (suc (a / 2) * hid f + q % hid f) ∙ below f (a / 2) (q % hid f) small_suc (mod-lt q (pow_pos (prec f - 1))))) tt
    where
      below : (f : Format) (x t : ℕ) → suc x < ones f → t < hid f → ltb (ones f * hid f) ((suc x * hid f + t) % top f) ≡ false
      below binary32 x t h k = le-ltb (ones binary32 * hid binary32) ((suc x * hid binary32 + t) % top binary32) (omega arith)
      below binary64 x t h k = le-ltb (ones binary64 * hid binary64) ((suc x * hid binary64 + t) % top binary64) (omega arith)

  pub bits_out : (n : ℕ) → n * 2 ^ lift f ≡ s * 2 ^ a → of_bits f bits ≡ root_units f n
  bits_out n e =
      ap (of_bits f) (rebuilt ∙ ap (λ (v : ℕ). suc (a / 2) * hid f + v % hid f) (Q ∙ ap (λ (v : ℕ). near_root (prec f) (v * hid f)) D))
      ∙ scaled_bits f s a lo hi n e small_suc
