use Rattle.debugger.proofs.Sets.{breaks_cleared}
use Rattle.debugger.proofs.laws.cleared_breaks_are_clear.Goals as goal

pub returns : goal.returns
returns c = breaks_cleared
