use Rattle.debugger.proofs.Hits.{reads}
use Rattle.debugger.proofs.laws.reads_never_hit.Goals as goal

pub returns : goal.returns
returns c = reads
