use Rattle.world_laws.proofs.Telling.{steps_tell_what_they_write}
use Rattle.world_laws.proofs.places.steps_tell_what_they_write.Goals as goal

pub returns : goal.returns
returns c = steps_tell_what_they_write
