use Rattle.world_laws.proofs.Calm.{stopped_machines_are_calm}
use Rattle.world_laws.proofs.places.stopped_machines_are_calm.Goals as goal

pub returns : goal.returns
returns c = stopped_machines_are_calm
