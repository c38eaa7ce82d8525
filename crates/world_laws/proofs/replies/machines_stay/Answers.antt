use Rattle.world_laws.proofs.Apart.{machines_stay}
use Rattle.world_laws.proofs.replies.machines_stay.Goals as goal

pub returns : goal.returns
returns c = machines_stay
