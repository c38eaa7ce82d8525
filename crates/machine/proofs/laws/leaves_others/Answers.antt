use Rattle.machine.proofs.Others.{leaves_others}
use Rattle.machine.proofs.laws.leaves_others.Goals as goal

pub returns : goal.returns
returns c = leaves_others
