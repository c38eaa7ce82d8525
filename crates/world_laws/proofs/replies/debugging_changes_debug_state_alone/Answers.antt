use Rattle.world_laws.proofs.Debugged.{debugging_keeps}
use Rattle.world_laws.proofs.replies.debugging_changes_debug_state_alone.Goals as goal

pub returns : goal.returns
returns c = debugging_keeps
