use Rattle.world.proofs.Undebugged_runs.{neither_changes_anything}
use Rattle.world.proofs.laws.neither_changes_anything.Goals as goal

pub returns : goal.returns
returns c = neither_changes_anything
