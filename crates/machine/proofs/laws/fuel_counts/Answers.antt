use Rattle.machine.proofs.Fuel.{fuel_counts}
use Rattle.machine.proofs.laws.fuel_counts.Goals as goal

pub returns : goal.returns
returns g c = fuel_counts g.M.Memory.acts
