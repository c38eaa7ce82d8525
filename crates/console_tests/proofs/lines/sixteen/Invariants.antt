use Rattle.std.proofs.Common.{◌≡◌, length}
use Rattle.console_tests.proofs.lines.sixteen.Given as goal

-- as many are granted as the loop has gone round
abbrev pub invariant-loop-count : goal.invariant-loop-count
invariant-loop-count l = length l.grants.listed ≡ l.count
