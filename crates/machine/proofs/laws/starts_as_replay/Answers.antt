use Rattle.machine.proofs.Replaying.{starts_as_replay}
use Rattle.machine.proofs.laws.starts_as_replay.Goals as goal

pub returns : goal.returns
returns c = starts_as_replay
