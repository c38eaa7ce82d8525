use Rattle.machine.proofs.Wholeness.{map_always_steps}
use Rattle.machine.proofs.laws.map_always_steps.Goals as goal

pub returns : goal.returns
returns c = map_always_steps
