use Rattle.std.proofs.Common.{◌≤◌, ◌-◌}
use Rattle.machine.specs.Rights.{IsOpenTable}
use Rattle.machine.proofs.rights.last_open.Given as goal

abbrev pub invariant-loop-last : goal.invariant-loop-last
invariant-loop-last l = (l.last ≤ 1024) × IsOpenTable l.table l.last

abbrev pub decreases-loop-last : goal.decreases-loop-last
decreases-loop-last l = 1024 - l.last
