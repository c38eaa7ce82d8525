use Rattle.machine.proofs.Stopping.{waits_in_place}
use Rattle.machine.proofs.laws.waits_in_place.Goals as goal

pub returns : goal.returns
returns g c = waits_in_place g.M.Memory.acts
