use Rattle.debugger.proofs.Pauses.{stops}
use Rattle.debugger.proofs.laws.stops_end_pauses.Goals as goal

pub returns : goal.returns
returns c = stops
