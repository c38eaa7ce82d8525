use Rattle.std.proofs.Common.{take, false}
use Rattle.machine.specs.KeptGrants.{grants_in}
use Rattle.machine.specs.Rights.{IsTableOf}
use Rattle.machine.proofs.rights.table_of.Given as goal

-- the table of the grants that the loop has read
abbrev pub invariant-loop-kept : goal.invariant-loop-kept
invariant-loop-kept l = IsTableOf (record { all = false; listed = grants_in (take l.kept-index l.all) }) l.table
