use Rattle.memory.proofs.Accesses.{others}
use Rattle.memory.proofs.laws.other_objects_stay.Goals as goal

pub returns : goal.returns
returns c = others
