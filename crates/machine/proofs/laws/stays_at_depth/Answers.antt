use Rattle.machine.proofs.Pointers.{stays_at_depth}
use Rattle.machine.proofs.laws.stays_at_depth.Goals as goal

pub returns : goal.returns
returns g c = stays_at_depth g.M.Memory.acts
