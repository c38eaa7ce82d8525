use Rattle.debugger.proofs.Pauses.{goes_on}
use Rattle.debugger.proofs.laws.resuming_goes_on.Goals as goal

pub returns : goal.returns
returns c = goes_on
