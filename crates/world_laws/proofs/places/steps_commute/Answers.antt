use Rattle.world_laws.proofs.Turned.{steps_commute}
use Rattle.world_laws.proofs.places.steps_commute.Goals as goal

pub returns : goal.returns
returns c = steps_commute
