use Rattle.debugger.proofs.Pauses.{ends}
use Rattle.debugger.proofs.laws.passing_ends.Goals as goal

pub returns : goal.returns
returns c = ends
