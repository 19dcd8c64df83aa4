-- Each answer by the bytes that were looked at. Assumes nothing.
use Rattle.std.proofs.Common.{ℕ, nat_eq, ap, ◌∙◌}
use Rattle.pieces.proofs.Back.{plain_formed, other_formed}
use Rattle.pieces.proofs.kinds.is_formed.Goals as goal

pub returns-then-s-at-eq0 : goal.returns-then-s-at-eq0
returns-then-s-at-eq0 c = ap (λ (w : ℕ). nat_eq w 0) c.word_at.ensures ∙ plain_formed c.args.s.now c.args.at c.if-s-at-eq0.true

pub returns-else-s-at-eq0 : goal.returns-else-s-at-eq0
returns-else-s-at-eq0 c = other_formed c.args.s.now c.args.at c.if-s-at-eq0.false
