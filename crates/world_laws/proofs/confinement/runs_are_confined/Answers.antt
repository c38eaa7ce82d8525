use Rattle.world_laws.proofs.Unlearnt.{runs_are_confined}
use Rattle.world_laws.proofs.confinement.runs_are_confined.Goals as goal

pub returns : goal.returns
returns c = runs_are_confined
