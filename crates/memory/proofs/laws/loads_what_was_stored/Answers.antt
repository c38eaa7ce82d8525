use Rattle.memory.proofs.Accesses.{loads}
use Rattle.memory.proofs.laws.loads_what_was_stored.Goals as goal

pub returns : goal.returns
returns c = loads
