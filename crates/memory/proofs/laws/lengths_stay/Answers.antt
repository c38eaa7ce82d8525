use Rattle.memory.proofs.Accesses.{lengths}
use Rattle.memory.proofs.laws.lengths_stay.Goals as goal

pub returns : goal.returns
returns c = lengths
