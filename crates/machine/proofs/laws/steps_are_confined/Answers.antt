use Rattle.machine.proofs.Confined.{steps_are_confined}
use Rattle.machine.proofs.laws.steps_are_confined.Goals as goal

pub returns : goal.returns
returns c = steps_are_confined
