use Rattle.world_laws.proofs.Puts.{puts_stay_apart}
use Rattle.world_laws.proofs.replies.puts_stay_apart.Goals as goal

pub returns : goal.returns
returns c = puts_stay_apart
