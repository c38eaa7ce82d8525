use Rattle.machine.proofs.OneWay.{map_steps_one_way}
use Rattle.machine.proofs.laws.map_steps_one_way.Goals as goal

pub returns : goal.returns
returns c = map_steps_one_way
