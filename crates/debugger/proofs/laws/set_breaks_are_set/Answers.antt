use Rattle.debugger.proofs.Sets.{breaks_set}
use Rattle.debugger.proofs.laws.set_breaks_are_set.Goals as goal

pub returns : goal.returns
returns c = breaks_set
