use Rattle.machine.proofs.Granted.{entries_are_granted}
use Rattle.machine.proofs.laws.entries_are_granted.Goals as goal

pub returns : goal.returns
returns c = entries_are_granted
