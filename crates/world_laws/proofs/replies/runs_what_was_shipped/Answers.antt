use Rattle.world_laws.proofs.Shipped.{runs_what_was_shipped}
use Rattle.world_laws.proofs.replies.runs_what_was_shipped.Goals as goal

pub returns : goal.returns
returns c = runs_what_was_shipped
