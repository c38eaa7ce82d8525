use Rattle.debugger.proofs.Sets.{watches_cleared}
use Rattle.debugger.proofs.laws.cleared_watches_are_clear.Goals as goal

pub returns : goal.returns
returns c = watches_cleared
