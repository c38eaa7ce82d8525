use Rattle.memory.proofs.Accesses.{unwritten}
use Rattle.memory.proofs.laws.unwritten_stays.Goals as goal

pub returns : goal.returns
returns c = unwritten
