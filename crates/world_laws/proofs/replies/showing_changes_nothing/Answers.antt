use Rattle.world_laws.proofs.Refusals.{showing_keeps}
use Rattle.world_laws.proofs.replies.showing_changes_nothing.Goals as goal

pub returns : goal.returns
returns c = showing_keeps
