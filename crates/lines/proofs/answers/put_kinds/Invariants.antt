-- The kinds before this one are put. Assumes nothing.
use Rattle.std.proofs.Common.{List}
use Rattle.angles.specs.declared.Kind.{Kind}
use Rattle.script.specs.Page.{page}
use Rattle.lines.proofs.Pages.{Listed}
use Rattle.lines.proofs.answers.put_kinds.Given as goal

abbrev pub invariant-loop-k : goal.invariant-loop-k
invariant-loop-k g l = Listed g.T.Number.format (g.T.Number.seen (λ A. List (Kind A)) l.k-items) (page l.fn.out l.fn.used) l.k-index (page l.out l.at)
