use Rattle.world.proofs.Unmoved.{moving_changes_nothing}
use Rattle.world.proofs.laws.moving_changes_nothing.Goals as goal

pub returns : goal.returns
returns c = moving_changes_nothing
