use Rattle.world_laws.proofs.Awaited.{waits_exactly}
use Rattle.world_laws.proofs.places.waits_exactly.Goals as goal

pub returns : goal.returns
returns c = waits_exactly
