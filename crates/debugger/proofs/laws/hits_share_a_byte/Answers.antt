use Rattle.debugger.proofs.Hits.{hits_share}
use Rattle.debugger.proofs.laws.hits_share_a_byte.Goals as goal

pub returns : goal.returns
returns c = hits_share
