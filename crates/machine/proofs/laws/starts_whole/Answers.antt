use Rattle.machine.proofs.Wholeness.{starts_whole}
use Rattle.machine.proofs.laws.starts_whole.Goals as goal

pub returns : goal.returns
returns c = starts_whole
