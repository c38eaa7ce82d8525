use Rattle.assembler.proofs.Tokened.{one_meaning}
use Rattle.assembler.proofs.laws.one_meaning.Goals as goal

pub returns : goal.returns
returns c = one_meaning
