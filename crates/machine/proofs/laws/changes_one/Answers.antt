use Rattle.machine.proofs.Changes.{changes_one}
use Rattle.machine.proofs.laws.changes_one.Goals as goal

pub returns : goal.returns
returns c = changes_one
