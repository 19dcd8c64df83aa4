-- A run that starts in the line ends in it. Assumes nothing.
use Rattle.std.proofs.Common.{arith, sym, length-take-le}
use Rattle.script.specs.declared.text.Class.TheVariants.{Code}
use Rattle.script.proofs.Runs.{run_in}
use Rattle.script.proofs.text.code.Goals as goal

pub slice_bounds-result-end : goal.slice_bounds-result-end
slice_bounds-result-end c = sym (length-take-le _ _ (omega (arith, run_in Code c.args.line.now 0 (omega arith), c.run_end.ensures)))
