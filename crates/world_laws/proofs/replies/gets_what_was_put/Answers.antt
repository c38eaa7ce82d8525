use Rattle.world_laws.proofs.Puts.{gets_what_was_put}
use Rattle.world_laws.proofs.replies.gets_what_was_put.Goals as goal

pub returns : goal.returns
returns c = gets_what_was_put
