use Rattle.machine.proofs.Replaying.{stays_replay}
use Rattle.machine.proofs.laws.stays_replay.Goals as goal

pub returns : goal.returns
returns g c = stays_replay g.M.Memory.acts g.met.M.Memory.promises
