use Rattle.world.proofs.Undebugged_runs.{debugging_changes_nothing}
use Rattle.world.proofs.laws.debugging_changes_nothing.Goals as goal

pub returns : goal.returns
returns c = debugging_changes_nothing
