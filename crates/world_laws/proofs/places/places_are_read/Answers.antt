use Rattle.world_laws.proofs.Placed.{places_are_read}
use Rattle.world_laws.proofs.places.places_are_read.Goals as goal

pub returns : goal.returns
returns c = places_are_read
