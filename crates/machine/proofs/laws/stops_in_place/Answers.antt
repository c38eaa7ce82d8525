use Rattle.machine.proofs.Stopping.{stops_in_place}
use Rattle.machine.proofs.laws.stops_in_place.Goals as goal

pub returns : goal.returns
returns g c = stops_in_place g.M.Memory.acts
