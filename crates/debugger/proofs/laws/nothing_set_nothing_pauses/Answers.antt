use Rattle.debugger.proofs.Pauses.{nothing_set}
use Rattle.debugger.proofs.laws.nothing_set_nothing_pauses.Goals as goal

pub returns : goal.returns
returns c = nothing_set
