use Rattle.debugger.proofs.Pauses.{ones}
use Rattle.debugger.proofs.laws.ones_pause.Goals as goal

pub returns : goal.returns
returns c = ones
