use Rattle.machine.proofs.Replaying.{waited_did}
use Rattle.machine.proofs.laws.waiting_does_nothing.Goals as goal

pub returns : goal.returns
returns g c = waited_did g.M.Memory.acts g.met.M.Memory.promises
