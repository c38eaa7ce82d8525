use Rattle.machine.proofs.Others.{steps_commute}
use Rattle.machine.proofs.laws.steps_commute.Goals as goal

pub returns : goal.returns
returns c = steps_commute
