-- From two answers that one contract allows, their equality: of what shows a filter. Assumes nothing.
use Prim.Native.Nat.{ℕ, ◌-◌, ◌≤◌, ◌<◌}
use native.Mathlib.Nat.{zero-lt-suc, pow-le-pow_right}
use native.Mathlib.Omega.{arith}
use mathlib.Core.Path.{◌≡◌, sym, ◌∙◌, subst}
use mathlib.Core.Bool.{Bool, true, false, not}
use mathlib.Core.List.{List}
use lib.Dec.{T, ltb, ltb→lt, nltb→le}
use lib.Ieee.{Format}
use Rattle.filter.specs.Types.{Filter}
use Rattle.script.specs.Page.{Page, page, Decimal}
use Rattle.script.proofs.Pages.{made}
use Rattle.lines.specs.Answers.{Shown, Counted, put_moments, FilterShown, KeptShown}

module _ {n : ℕ} {p : Page} {u v : ℕ} {l m : List ℕ} where
  -- the fewest digits that hold a number are so many
  no_more : (a : Decimal n p u l) (b : Decimal n p v m) → a.places ≤ b.places
  no_more a b = go (ltb b.places a.places) (ltb→lt b.places a.places) (nltb→le b.places a.places)
    where
      go : (t : Bool) → (T t → b.places < a.places) → (T (not t) → a.places ≤ b.places) → a.places ≤ b.places
      go true more less =
          let k = more tt in
          let least = b.fewest.0 in
          let holds = b.fewest.1 in
          let q : b.places ≤ a.places - 1 = omega arith in
          absurd (omega (arith, a.fewest.2 (omega arith), pow-le-pow_right (zero-lt-suc 9) q))
      go false more less = less tt

module _ {n : ℕ} {p : Page} where
  same_count : {u v : ℕ} {l m : List ℕ} → Decimal n p u l → Decimal n p v m → page l u ≡ page m v
  same_count a b =
      let places : a.places ≡ b.places = omega (arith, no_more a b, no_more b a) in
      let used = a.count in
      let text = a.text in
      let used2 = b.count in
      let text2 = b.text in
      cc

  counted_once : {rest : Page → ℕ → List ℕ → Type 0} {u v : ℕ} {l m : List ℕ} → ((q : Page) → rest q u l → rest q v m → page l u ≡ page m v) → Counted n p rest u l → Counted n p rest v m → page l u ≡ page m v
  counted_once {rest} {u} {v} {l} {m} once a b = once b.counted (subst (λ q. rest q u l) (same_count a.count b.count) a.after) b.after

shown_once : {u v : ℕ} {l m : List ℕ} (p : Page) → Shown p u l → Shown p v m → page l u ≡ page m v
shown_once p a b = made a ∙ sym (made b)

module _ (f : Format) (s : Filter) (p : Page) {u v : ℕ} {l m : List ℕ} where
  pub put_moments_one : Shown (put_moments f s p) u l → Shown (put_moments f s p) v m → page l u ≡ page m v
  put_moments_one = shown_once (put_moments f s p)

  pub put_filter_one : FilterShown f s p u l → FilterShown f s p v m → page l u ≡ page m v
  put_filter_one = counted_once (λ q. shown_once _)

  pub put_kept_one : KeptShown f s p u l → KeptShown f s p v m → page l u ≡ page m v
  put_kept_one = counted_once (λ q. counted_once (λ r. shown_once _))
