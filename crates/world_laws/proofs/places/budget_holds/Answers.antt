use Rattle.world_laws.proofs.Budgeted.{budget_holds}
use Rattle.world_laws.proofs.places.budget_holds.Goals as goal

pub returns : goal.returns
returns c = budget_holds
