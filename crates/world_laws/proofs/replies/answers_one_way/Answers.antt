use Rattle.world_laws.proofs.OneWay.{answers_one_way}
use Rattle.world_laws.proofs.replies.answers_one_way.Goals as goal

pub returns : goal.returns
returns c = answers_one_way
