use Rattle.world_laws.proofs.Moving.{moves_change_no_byte}
use Rattle.world_laws.proofs.places.moves_change_no_byte.Goals as goal

pub returns : goal.returns
returns c = moves_change_no_byte
