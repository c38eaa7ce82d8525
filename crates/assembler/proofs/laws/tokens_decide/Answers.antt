use Rattle.assembler.proofs.Tokened.{tokens_decide}
use Rattle.assembler.proofs.laws.tokens_decide.Goals as goal

pub returns : goal.returns
returns c = tokens_decide
