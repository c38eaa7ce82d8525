use Rattle.world_laws.proofs.Refusals.{refusals_keep}
use Rattle.world_laws.proofs.replies.refusals_change_nothing.Goals as goal

pub returns : goal.returns
returns c = refusals_keep
