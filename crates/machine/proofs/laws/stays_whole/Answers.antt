use Rattle.machine.proofs.Wholeness.{stays_whole}
use Rattle.machine.proofs.laws.stays_whole.Goals as goal

pub returns : goal.returns
returns g c = stays_whole g.M.Memory.acts
