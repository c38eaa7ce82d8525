use Rattle.memory.proofs.Accesses.{commute}
use Rattle.memory.proofs.laws.accesses_commute.Goals as goal

pub returns : goal.returns
returns c = commute
