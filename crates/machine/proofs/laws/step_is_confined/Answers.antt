use Rattle.machine.proofs.Confined.{step_is_confined}
use Rattle.machine.proofs.laws.step_is_confined.Goals as goal

pub returns : goal.returns
returns c = step_is_confined
