-- The bytes are compared as the definition compares them. Assumes nothing.
use Rattle.std.proofs.Common.{◌∙◌}
use Rattle.script.proofs.Same.{same_is}
use Rattle.script.proofs.text.same_bytes.Goals as goal

pub returns : goal.returns
returns c = c.eq.ensures ∙ same_is c.args.a.now c.args.b.now
