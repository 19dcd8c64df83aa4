-- Kinds, one after another on a page. Assumes nothing.
use Prim.Native.Nat.{ℕ, ◌+◌, ◌≤◌, ◌<◌}
use native.Mathlib.Numerals.{add-one}
use mathlib.Core.Path.{◌≡◌, refl, sym, ap, ◌∙◌}
use mathlib.Core.List.{List, []}
use lib.ListN.{length, get_or, drop, drop_of_length-le}
use lib.Seq.{drop-cons}
use lib.Ieee.{Format}
use Rattle.angles.specs.Kinds.{Kind}
use Rattle.script.specs.Page.{Page, page}
use Rattle.script.proofs.Pages.{shows, made}
use Rattle.lines.specs.Answers.{Shown, put_kind, put_kinds}

-- i kinds are on the page, and what is left comes to the whole
abbrev pub Listed : Format → List Kind → Page → ℕ → Page → Type 0
Listed f s p i q = put_kinds f (drop i s) q ≡ put_kinds f s p

nothing : (f : Format) (p : Page) → p ≡ put_kinds f [] p
unfolding put_kinds
nothing f p = refl

pub listed_more : (f : Format) (s : List Kind) (i : ℕ) (z : Kind) (p : Page) (l : List ℕ) (n : ℕ) {m : List ℕ} {next : ℕ} → Listed f s p i (page l n) → i < length s → Shown (put_kind f (get_or s i z) (page l n)) next m → Listed f s p (i + 1) (page m next)
unfolding put_kinds
listed_more f s i z p l n r h w = ap (λ (q : Page). put_kinds f (drop (i + 1) s) q) (made w) ∙ step ∙ r
  where
    step : put_kinds f (drop (i + 1) s) (put_kind f (get_or s i z) (page l n)) ≡ put_kinds f (drop i s) (page l n)
    step = rw (add-one i, drop-cons s i z h)

pub listed_over : (f : Format) (s : List Kind) (i : ℕ) (p : Page) {l : List ℕ} {n : ℕ} → Listed f s p i (page l n) → length s ≤ i → Shown (put_kinds f s p) n l
listed_over f s i p {l = l} {n = n} r h = shows (nothing f (page l n) ∙ ap (λ (m : List Kind). put_kinds f m (page l n)) (sym (drop_of_length-le s h)) ∙ r)
