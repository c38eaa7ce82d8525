use Rattle.machine.proofs.OneWay.{steps_one_way}
use Rattle.machine.proofs.laws.steps_one_way.Goals as goal

pub returns : goal.returns
returns g c = steps_one_way g.M.Memory.acts
