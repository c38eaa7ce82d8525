use Rattle.machine.proofs.SameReplays.{replays_one_way}
use Rattle.machine.proofs.laws.replays_one_way.Goals as goal

pub returns : goal.returns
returns c = replays_one_way
