-- The types that a generic function's `T: Number` may stand for, as its proof takes them: the type, what is known of it, and what the traits say of it; f64 and f32 are two. What its values are seen as tells them apart. Assumes nothing.
use mathlib.Core.Path.{◌≡◌, refl, sym, ◌∙◌}
use mathlib.Core.List.{List}
use mir.Syntax.{Dict}
use denote.RattleType.{RattleType}
use denote.Param.Laws.{Laws, IsCopy, of_field, of_copyable}
use denote.Struct.Field.{f64-field, f32-field}
use denote.Struct.Laws.{f64-laws, f32-laws, f64-copy, f32-copy}
use denote.Param.Shared.{copy_shared}
use Rattle.std.specs.declared.clone.Clone
use Rattle.std.specs.declared.cmp.PartialEq
use Rattle.std.specs.declared.cmp.PartialOrd
use Rattle.std.specs.declared.ops.Add
use Rattle.std.specs.declared.ops.Sub
use Rattle.std.specs.declared.ops.Mul
use Rattle.std.specs.declared.ops.Div
use Rattle.std.specs.declared.ops.Neg
use Rattle.std.specs.contracts.prelude.F64Clone.TheImpl as F64Clone
use Rattle.std.specs.contracts.prelude.F64PartialOrd.TheImpl as F64PartialOrd
use Rattle.std.specs.contracts.prelude.F64PartialEq.TheImpl as F64PartialEq
use Rattle.std.specs.contracts.prelude.F64Add.TheImpl as F64Add
use Rattle.std.specs.contracts.prelude.F64Sub.TheImpl as F64Sub
use Rattle.std.specs.contracts.prelude.F64Mul.TheImpl as F64Mul
use Rattle.std.specs.contracts.prelude.F64Div.TheImpl as F64Div
use Rattle.std.specs.contracts.prelude.F64Neg.TheImpl as F64Neg
use Rattle.std.specs.contracts.prelude.F32Clone.TheImpl as F32Clone
use Rattle.std.specs.contracts.prelude.F32PartialOrd.TheImpl as F32PartialOrd
use Rattle.std.specs.contracts.prelude.F32PartialEq.TheImpl as F32PartialEq
use Rattle.std.specs.contracts.prelude.F32Add.TheImpl as F32Add
use Rattle.std.specs.contracts.prelude.F32Sub.TheImpl as F32Sub
use Rattle.std.specs.contracts.prelude.F32Mul.TheImpl as F32Mul
use Rattle.std.specs.contracts.prelude.F32Div.TheImpl as F32Div
use Rattle.std.specs.contracts.prelude.F32Neg.TheImpl as F32Neg
use Rattle.floats.specs.declared.number.Number
use Rattle.floats.specs.contracts.number.Number.TheBound as law
use Rattle.floats.specs.contracts.number.F64Number.TheImpl as F64Number
use Rattle.floats.specs.contracts.number.F32Number.TheImpl as F32Number

-- A type with the bound. Of each trait the members that proofs read, and the dictionary that the code is passed; and of the laws of Number the two that say what its values are seen as.
pub record Instance : Type 2 where
  pub row : RattleType
  pub laws : Laws row
  pub copies : IsCopy row
  pub number : Number.Ghosts row.Denot
  pub number_at : Dict
  pub clone : Clone.Ghosts row.Denot
  pub clone_at : Dict
  pub ord : PartialOrd.Ghosts row.Denot
  pub ord_at : Dict
  pub eq : PartialEq.Ghosts row.Denot
  pub eq_at : Dict
  pub add : Add.Ghosts row.Denot row.Denot row.Denot
  pub add_at : Dict
  pub sub : Sub.Ghosts row.Denot row.Denot row.Denot
  pub sub_at : Dict
  pub mul : Mul.Ghosts row.Denot row.Denot row.Denot
  pub mul_at : Dict
  pub div : Div.Ghosts row.Denot row.Denot row.Denot
  pub div_at : Dict
  pub neg : Neg.Ghosts row.Denot row.Denot
  pub neg_at : Dict
  pub float_law : law.float_law-law row number number_at clone clone_at ord ord_at eq eq_at add add_at sub sub_at mul mul_at div div_at neg neg_at
  pub floats_seen_law : law.floats_seen_law-law row number number_at clone clone_at ord ord_at eq eq_at add add_at sub sub_at mul mul_at div div_at neg neg_at

-- what is seen as the same is the same: of whatever is made of values, of a value and of a list
module _ (T : Instance) where
  abbrev pub Value : Type 0
  Value = T.row.Denot

  pub seen_one : (F : Type 0 → Type 0) {x y : F Value} → T.number.seen F x ≡ T.number.seen F y → x ≡ y
  seen_one F {x} {y} e = T.number.same (λ A s. (x y : F A) → s F x ≡ s F y → x ≡ y) (λ x y e. e) x y e

  pub float_one : {x y : Value} → T.number.float x ≡ T.number.float y → x ≡ y
  float_one {x} {y} e = seen_one (λ A. A) (sym (T.float_law x) ∙ e ∙ T.float_law y)

  pub floats_one : {l m : List Value} → T.number.floats l ≡ T.number.floats m → l ≡ m
  floats_one {l} {m} e = seen_one List (sym (T.floats_seen_law l) ∙ e ∙ T.floats_seen_law m)

-- ---- THE TWO
abbrev pub f64 : Instance
f64 = record {
  row = f64-field.row;
  laws = of_field f64-field f64-laws refl (copy_shared f64-field f64-copy);
  copies = of_copyable f64-field f64-copy;
  number = F64Number.ghosts;
  number_at = F64Number.dict;
  clone = F64Clone.ghosts;
  clone_at = F64Clone.dict;
  ord = F64PartialOrd.ghosts;
  ord_at = F64PartialOrd.dict;
  eq = F64PartialEq.ghosts;
  eq_at = F64PartialEq.dict;
  add = F64Add.ghosts;
  add_at = F64Add.dict;
  sub = F64Sub.ghosts;
  sub_at = F64Sub.dict;
  mul = F64Mul.ghosts;
  mul_at = F64Mul.dict;
  div = F64Div.ghosts;
  div_at = F64Div.dict;
  neg = F64Neg.ghosts;
  neg_at = F64Neg.dict;
  float_law = λ x. refl;
  floats_seen_law = λ l. refl;
}

abbrev pub f32 : Instance
f32 = record {
  row = f32-field.row;
  laws = of_field f32-field f32-laws refl (copy_shared f32-field f32-copy);
  copies = of_copyable f32-field f32-copy;
  number = F32Number.ghosts;
  number_at = F32Number.dict;
  clone = F32Clone.ghosts;
  clone_at = F32Clone.dict;
  ord = F32PartialOrd.ghosts;
  ord_at = F32PartialOrd.dict;
  eq = F32PartialEq.ghosts;
  eq_at = F32PartialEq.dict;
  add = F32Add.ghosts;
  add_at = F32Add.dict;
  sub = F32Sub.ghosts;
  sub_at = F32Sub.dict;
  mul = F32Mul.ghosts;
  mul_at = F32Mul.dict;
  div = F32Div.ghosts;
  div_at = F32Div.dict;
  neg = F32Neg.ghosts;
  neg_at = F32Neg.dict;
  float_law = λ x. refl;
  floats_seen_law = λ l. refl;
}
