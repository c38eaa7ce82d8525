use Rattle.machine.proofs.Confined.{steps_protect}
use Rattle.machine.proofs.laws.steps_protect.Goals as goal

pub returns : goal.returns
returns c = steps_protect
