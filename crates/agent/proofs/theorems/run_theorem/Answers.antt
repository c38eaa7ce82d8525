use Rattle.agent.proofs.RunOutputs.{run_theorem}
use Rattle.agent.proofs.theorems.run_theorem.Goals as goal

pub returns : goal.returns
returns c = run_theorem
