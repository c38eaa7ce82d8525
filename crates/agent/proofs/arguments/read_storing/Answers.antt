use Rattle.std.proofs.Common.{refl}
use Rattle.agent.proofs.arguments.read_storing.Goals as goal

pub returns : goal.returns
returns c = rw (c.read_number.ensures, c.read_number-2.ensures, c.read_number-3.ensures, c.is_set.ensures) refl
