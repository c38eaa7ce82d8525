use Rattle.world_laws.proofs.Apart.{objects_stay}
use Rattle.world_laws.proofs.replies.objects_stay.Goals as goal

pub returns : goal.returns
returns c = objects_stay
