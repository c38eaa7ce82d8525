use Rattle.machine.proofs.Fuel.{fuel_bounds}
use Rattle.machine.proofs.laws.fuel_bounds.Goals as goal

pub returns : goal.returns
returns g c = fuel_bounds g.M.Memory.acts
