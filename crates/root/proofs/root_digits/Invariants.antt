-- The digits below 2 ^ i are left to find.
use Rattle.std.proofs.Common.{◌-◌, ◌*◌, ◌^◌}
use Rattle.root.proofs.Digits.{Digits}
use Rattle.root.proofs.root_digits.Given as goal

abbrev pub invariant-loop-i : goal.invariant-loop-i
invariant-loop-i g l = Digits (l.d * 2 ^ (g.row.DIGITS - 1)) g.row.DIGITS l.i l.q l.y
