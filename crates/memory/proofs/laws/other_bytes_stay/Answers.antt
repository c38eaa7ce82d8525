use Rattle.memory.proofs.Accesses.{bytes_stay}
use Rattle.memory.proofs.laws.other_bytes_stay.Goals as goal

pub returns : goal.returns
returns c = bytes_stay
