-- A token of a word's length, and what its word is. Assumes nothing.
use mathlib.Core.Path.{◌≡◌, refl, sym, ap, ◌∙◌}
use mathlib.Core.Bool.{Bool, true, false, cond}
use mathlib.Core.List.{List}
use Prim.Native.Nat.{ℕ, ◌+◌, ◌-◌}
use native.Mathlib.Omega.{arith}
use borrow.Author.Tests.{eqb-true}
use lib.Dec.{eqb}
use lib.Ieee.{Float, Format, binary32, binary64, of_bits}
use Rattle.std.specs.Prelude.{None, Some}
use Rattle.std.proofs.Common.{eq-eqb}
use Rattle.words.specs.Words.{Word, width, word_of}
use Rattle.script.specs.Text.{found, token_of}
use Rattle.script.specs.Numbers.{number_from, number_in, number_of}
use Rattle.script.specs.declared.text.Token.{Token}

module _ (f : Format) (s : List ℕ) (at : ℕ) {t : Token} (e : t ≡ token_of s at) where
  pub other_width : (t.end ≡ t.start + width f → ⊥) → None ≡ number_of f s at
  other_width n = go (eqb t.end (t.start + width f)) (eqb-true _ _) ∙ ap (number_in f s) e
    where
      go : (b : Bool) → (b ≡ true → t.end ≡ t.start + width f) → None ≡ cond b (number_from f t.end (word_of f s t.start)) None
      go true h = absurd (n (h refl))
      go false h = refl

  of_width : {w : Word} → t.end ≡ t.start + width f → w ≡ word_of f s t.start → number_from f t.end w ≡ number_of f s at
  of_width {w} h g =
      ap (λ (w : Word). number_from f t.end w) g
      ∙ ap (λ (b : Bool). cond b (number_from f t.end (word_of f s t.start)) None) (sym (eq-eqb t.end (t.start + width f) h)) ∙ ap (number_in f s) e

  pub no_word_there : t.end ≡ t.start + width f → None ≡ word_of f s t.start → None ≡ number_of f s at
  no_word_there h g = of_width h g

  pub word_there : {b : ℕ} {x : Float} → t.end ≡ t.start + width f → Some b ≡ word_of f s t.start → x ≡ of_bits f b → found x t.end ≡ number_of f s at
  word_there h g k = ap (λ (x : Float). found x t.end) k ∙ of_width h g

-- a token has as many bytes as a word has digits, by how far its end is from its start
pub whole : (f : Format) {d w : ℕ} (t : Token) → w ≡ width f → d ≡ t.end - t.start → d ≡ w → t.end ≡ t.start + width f
whole binary32 t e h g = omega arith
whole binary64 t e h g = omega arith
