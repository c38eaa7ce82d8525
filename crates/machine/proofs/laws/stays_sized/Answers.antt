use Rattle.machine.proofs.Wholeness.{stays_sized}
use Rattle.machine.proofs.laws.stays_sized.Goals as goal

pub returns : goal.returns
returns g c = stays_sized g.M.Memory.acts
