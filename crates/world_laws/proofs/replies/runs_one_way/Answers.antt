use Rattle.world_laws.proofs.OneWay.{runs_one_way}
use Rattle.world_laws.proofs.replies.runs_one_way.Goals as goal

pub returns : goal.returns
returns c = runs_one_way
