use Rattle.machine.proofs.Stopping.{stopped_stays}
use Rattle.machine.proofs.laws.stopped_stays.Goals as goal

pub returns : goal.returns
returns g c = stopped_stays g.M.Memory.acts
