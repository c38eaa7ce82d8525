use Rattle.std.proofs.Common.{refl}
use Rattle.machine.proofs.KeptGrants.{none_kept}
use Rattle.machine.proofs.grants.Grants.all.Goals as goal

pub invariant_of-result : goal.invariant_of-result
invariant_of-result c = (none_kept 16, refl)
