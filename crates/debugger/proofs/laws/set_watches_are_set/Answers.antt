use Rattle.debugger.proofs.Sets.{watches_set}
use Rattle.debugger.proofs.laws.set_watches_are_set.Goals as goal

pub returns : goal.returns
returns c = watches_set
