use Rattle.debugger.proofs.Pauses.{stays}
use Rattle.debugger.proofs.laws.pausing_stays.Goals as goal

pub returns : goal.returns
returns c = stays
