use Rattle.std.proofs.Common.{◌≡◌, length}
use Rattle.bench_start.proofs.first_objects.Given as goal

-- as many are granted as the loop has gone round
abbrev pub invariant-loop-index : goal.invariant-loop-index
invariant-loop-index l = length l.grants.listed ≡ l.index
