-- Tests made on the bytes of a token. Assumes nothing.
use mathlib.Core.Path.{◌≡◌, sym, ap, ◌∙◌}
use mathlib.Core.Bool.{Bool, true, false}
use mathlib.Core.List.{List, [], ◌∷◌}
use Prim.Native.Nat.{ℕ}
use lib.Ieee.{Float, Format}
use Rattle.std.specs.Prelude.{Option, None}
use Rattle.angles.specs.declared.Kind.TheVariants.{Plain}
use Rattle.script.specs.Text.{found, token_of, part_of, same_bytes}
use Rattle.script.specs.Numbers.{number_of, turn_of, kind_in, kind_of}
use Rattle.script.specs.declared.text.Read.{Read}
use Rattle.script.specs.declared.text.Token.{Token}

-- a test that was made on a token's bytes
pub tested : (s : List ℕ) (t : Token) {l : List ℕ} {a b : Bool} (w : List ℕ) → l ≡ part_of s t → a ≡ same_bytes l w → a ≡ b → same_bytes (part_of s t) w ≡ b
tested s t {l} w h e f = ap (λ (m : List ℕ). same_bytes m w) (sym h) ∙ sym e ∙ f

module _ (f : Format) (s : List ℕ) (at : ℕ) {t : Token} (e : t ≡ token_of s at) where
  pub plain_there : same_bytes (part_of s t) (112 ∷ []) ≡ true → found Plain t.end ≡ kind_of f s at
  plain_there h = rw h at (ap (kind_in f s) e)

  pub no_kind_there : same_bytes (part_of s t) (112 ∷ []) ≡ false → same_bytes (part_of s t) (116 ∷ []) ≡ false → None ≡ kind_of f s at
  no_kind_there h l = rw (h, l) at (ap (kind_in f s) e)

  -- with what the half-turn was read as
  pub turn_there : {n : Option (Read Float)} → same_bytes (part_of s t) (112 ∷ []) ≡ false → same_bytes (part_of s t) (116 ∷ []) ≡ true → n ≡ number_of f s t.end → turn_of n ≡ kind_of f s at
  turn_there h l g = ap turn_of g ∙ rw (h, l) at (ap (kind_in f s) e)
