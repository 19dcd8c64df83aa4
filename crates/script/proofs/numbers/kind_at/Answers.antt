-- The two letters are tested, and a turn reads its half-turn. Assumes nothing.
use Rattle.std.proofs.Common.{[], ◌∷◌, ap, ◌∙◌, sym, Option}
use Rattle.angles.specs.declared.Kind.{Kind}
use Rattle.script.specs.Numbers.{turn_of}
use Rattle.script.specs.declared.text.Read.{Read}
use Rattle.script.proofs.Seen.{no_number, no_kind, plain_found, turn_found}
use Rattle.script.proofs.Letters.{tested, plain_there, no_kind_there, turn_there}
use Rattle.script.proofs.numbers.kind_at.Goals as goal

pub returns-then-same_bytes : goal.returns-then-same_bytes
returns-then-same_bytes g c =
    let s = c.args.s.now in
    let t = c.token_at-t in
    plain_found g.T.Number.same t.result.end
    ∙ plain_there g.T.Number.format s c.args.at t.ensures (tested s t.result (112 ∷ []) c.part-letters.ensures c.same_bytes.ensures c.if-same_bytes.true)

pub returns-then-not-same_bytes : goal.returns-then-not-same_bytes
returns-then-not-same_bytes g c =
    let s = c.args.s.now in
    let t = c.token_at-t in
    no_kind g.T.Number.same
    ∙ no_kind_there g.T.Number.format s c.args.at t.ensures
    (tested s t.result (112 ∷ []) c.part-letters.ensures c.same_bytes.ensures c.if-same_bytes.false)
    (tested s t.result (116 ∷ []) c.part-letters.ensures c.same_bytes-2.ensures c.if-not-same_bytes.true)

pub returns-in_err-half_turn : goal.returns-in_err-half_turn
returns-in_err-half_turn g c =
    let s = c.args.s.now in
    let t = c.token_at-t in
    ap (g.T.Number.seen (λ A. Option (Read (Kind A)))) c.from_residual.ensures ∙ no_kind g.T.Number.same ∙ ap turn_of (sym (no_number g.T.Number.same))
    ∙ turn_there g.T.Number.format s c.args.at t.ensures
    (tested s t.result (112 ∷ []) c.part-letters.ensures c.same_bytes.ensures c.if-same_bytes.false)
    (tested s t.result (116 ∷ []) c.part-letters.ensures c.same_bytes-2.ensures c.if-not-same_bytes.false)
    c.in_err-half_turn.ensures

pub returns : goal.returns
returns g c =
    let s = c.args.s.now in
    let t = c.token_at-t in
    turn_found g.T.Number.same c.in_ok-half_turn.half_turn
    ∙ turn_there g.T.Number.format s c.args.at t.ensures
    (tested s t.result (112 ∷ []) c.part-letters.ensures c.same_bytes.ensures c.if-same_bytes.false)
    (tested s t.result (116 ∷ []) c.part-letters.ensures c.same_bytes-2.ensures c.if-not-same_bytes.false)
    c.in_ok-half_turn.ensures
