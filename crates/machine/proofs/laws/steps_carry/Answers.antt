use Rattle.machine.proofs.Carried.{steps_carry}
use Rattle.machine.proofs.laws.steps_carry.Goals as goal

pub returns : goal.returns
returns g c = steps_carry g.M.Memory.acts g.N.Memory.acts
