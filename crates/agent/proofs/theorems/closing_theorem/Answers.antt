use Rattle.agent.proofs.ServiceOutputs.{closing_theorem}
use Rattle.agent.proofs.theorems.closing_theorem.Goals as goal

pub returns : goal.returns
returns c = closing_theorem c.sorted_entries_run.ensures c.one_lists_are_legal.ensures
