use Rattle.machine.proofs.Wholeness.{always_steps}
use Rattle.machine.proofs.laws.always_steps.Goals as goal

pub returns : goal.returns
returns g c = always_steps g.M.Memory.acts
