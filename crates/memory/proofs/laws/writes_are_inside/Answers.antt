use Rattle.memory.proofs.Accesses.{writes_inside}
use Rattle.memory.proofs.laws.writes_are_inside.Goals as goal

pub returns : goal.returns
returns c = writes_inside
