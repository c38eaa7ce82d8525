use Rattle.memory.proofs.Promised.{map_promises}
use Rattle.memory.proofs.laws.map_keeps_promises.Goals as goal

pub returns : goal.returns
returns c = map_promises
