use Rattle.debugger.proofs.Hits.{failed}
use Rattle.debugger.proofs.laws.failed_exchanges_never_hit.Goals as goal

pub returns : goal.returns
returns c = failed
