use Rattle.debugger.proofs.Pauses.{waits}
use Rattle.debugger.proofs.laws.waiting_changes_nothing.Goals as goal

pub returns : goal.returns
returns c = waits
