-- What the operators of comparison answer at two floats: what the impls of `Number` prove.
use Rattle.std.specs.Prelude.{◌≡◌, Bool, true, false, cond, ◌||◌, Some, None, Float}
use Rattle.std.proofs.Common.{refl}
use Rattle.std.specs.Float.Ieee.{lt, le, eq}
use Rattle.std.specs.declared.cmp.Ordering.TheVariants.{Less, Equal, Greater}
use Rattle.std.specs.Ordering.{is_lt, is_le, is_some_and, float_partial_cmp, partial_lt, partial_le}

module _ (x y : Float) where
  pub lt_answers : partial_lt float_partial_cmp x y ≡ lt x y
  lt_answers = go (lt x y) (eq x y) (lt y x)
    where
      go : (a b c : Bool) → is_some_and is_lt (cond a (Some Less) (cond b (Some Equal) (cond c (Some Greater) None))) ≡ a
      go true b c = refl
      go false true c = refl
      go false false true = refl
      go false false false = refl

  pub le_answers : partial_le float_partial_cmp x y ≡ le x y
  unfolding le
  le_answers = go (lt x y) (eq x y) (lt y x)
    where
      go : (a b c : Bool) → is_some_and is_le (cond a (Some Less) (cond b (Some Equal) (cond c (Some Greater) None))) ≡ (a || b)
      go true b c = refl
      go false true c = refl
      go false false true = refl
      go false false false = refl
