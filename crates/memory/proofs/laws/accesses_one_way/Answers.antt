use Rattle.memory.proofs.Accesses.{one_way}
use Rattle.memory.proofs.laws.accesses_one_way.Goals as goal

pub returns : goal.returns
returns c = one_way
