use Rattle.memory.proofs.Accesses.{failed}
use Rattle.memory.proofs.laws.failed_exchanges_change_nothing.Goals as goal

pub returns : goal.returns
returns c = failed
