use Rattle.world_laws.proofs.Debugged.{others_stay}
use Rattle.world_laws.proofs.replies.others_stay.Goals as goal

pub returns : goal.returns
returns c = others_stay
