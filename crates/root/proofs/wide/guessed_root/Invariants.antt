-- s is what `high_part` gives.
use Rattle.std.proofs.Common.{◌^◌, ◌<◌}
use Rattle.root.proofs.wide.guessed_root.Given as goal

abbrev pub invariant-loop : goal.invariant-loop
invariant-loop l = l.s < 2 ^ 33
