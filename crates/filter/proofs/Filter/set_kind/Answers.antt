-- `Filter::set_kind` meets its contract. Assumes nothing.
use Prim.Native.Nat.{◌<◌, ◌≤◌, ◌-◌}
use mathlib.Core.Path.{◌≡◌, refl, sym, ap, ◌∙◌}
use mathlib.Core.Bool.{Bool, ◌&&◌}
use mathlib.Core.List.{List, [], ◌∷◌}
use native.Mathlib.Omega.{arith}
use borrow.Author.Rules.{rules}
use lib.Dec.{ltb}
use lib.ListN.{length, take}
use lib.Ieee.{Float}
use Rattle.floats.specs.declared.Slice.TheVariants.{Lone}
use Rattle.floats.specs.Refusal.{refusal}
use Rattle.floats.specs.Search.{input, searched}
use Rattle.angles.specs.declared.Kind.{Kind}
use Rattle.filter.specs.declared.Answer.{Answer}
use Rattle.filter.proofs.Taken.{Told, all_passed, has_finished, sent_back}
use Rattle.filter.proofs.Setting.{state_index, index_fits, kind_told, kind_left}
use Rattle.filter.proofs.Filter.set_kind.Goals as goal

pub returns-then-refusal-ne0 : goal.returns-then-refusal-ne0
returns-then-refusal-ne0 g c =
    let n = g.T.Number in
    let a = c.args in
    let t = kind_told n.same n.format a.self a.i (n.seen Kind a.kind) c.first_refusal-refusal.ensures
    (c.first_bad-found.ensures ∙ ap (λ (v : List Float). refusal (searched (input Lone (take 1 v)))) (g.met.T.Number.floats_law _ ∙ ap (λ (x : Float). x ∷ []) c.half.ensures))
    c.is_shut-shut.ensures c.is_state-sized.ensures c.passes-passing.ensures in
    sent_back n.same t c.answer.ensures c.if-refusal-ne0.true

pub offset_bounds-kinds-i : goal.offset_bounds-kinds-i
offset_bounds-kinds-i g c =
    let n = g.T.Number in
    let a = c.args in
    let t = kind_told n.same n.format a.self a.i (n.seen Kind a.kind) c.first_refusal-refusal.ensures
    (c.first_bad-found.ensures ∙ ap (λ (v : List Float). refusal (searched (input Lone (take 1 v)))) (g.met.T.Number.floats_law _ ∙ ap (λ (x : Float). x ∷ []) c.half.ensures))
    c.is_shut-shut.ensures c.is_state-sized.ensures c.passes-passing.ensures in
    let h : a.i < 8 = state_index _ _ (all_passed t c.if-refusal-ne0.false).sized in
    index_fits a.i _ h (omega arith)

pub listed : goal.listed
listed g c =
    let n = g.T.Number in
    let a = c.args in
    let t = kind_told n.same n.format a.self a.i (n.seen Kind a.kind) c.first_refusal-refusal.ensures
    (c.first_bad-found.ensures ∙ ap (λ (v : List Float). refusal (searched (input Lone (take 1 v)))) (g.met.T.Number.floats_law _ ∙ ap (λ (x : Float). x ∷ []) c.half.ensures))
    c.is_shut-shut.ensures c.is_state-sized.ensures c.passes-passing.ensures in
    let h : a.i < 8 = state_index _ _ (all_passed t c.if-refusal-ne0.false).sized in
    omega arith

pub bounds-kinds-i : goal.bounds-kinds-i
bounds-kinds-i g c =
    let n = g.T.Number in
    let a = c.args in
    let t = kind_told n.same n.format a.self a.i (n.seen Kind a.kind) c.first_refusal-refusal.ensures
    (c.first_bad-found.ensures ∙ ap (λ (v : List Float). refusal (searched (input Lone (take 1 v)))) (g.met.T.Number.floats_law _ ∙ ap (λ (x : Float). x ∷ []) c.half.ensures))
    c.is_shut-shut.ensures c.is_state-sized.ensures c.passes-passing.ensures in
    let h : a.i < 8 = state_index _ _ (all_passed t c.if-refusal-ne0.false).sized in
    h

pub returns : goal.returns
returns g c =
    let n = g.T.Number in
    let a = c.args in
    let t = kind_told n.same n.format a.self a.i (n.seen Kind a.kind) c.first_refusal-refusal.ensures
    (c.first_bad-found.ensures ∙ ap (λ (v : List Float). refusal (searched (input Lone (take 1 v)))) (g.met.T.Number.floats_law _ ∙ ap (λ (x : Float). x ∷ []) c.half.ensures))
    c.is_shut-shut.ensures c.is_state-sized.ensures c.passes-passing.ensures in
    ap (n.seen Answer) c.answer-2.ensures ∙ kind_left n.same a.self a.i a.kind _ ∙ has_finished t c.if-refusal-ne0.false refl refl
