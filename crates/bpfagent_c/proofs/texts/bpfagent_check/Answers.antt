use Rattle.std.proofs.Common.{rules}
use Rattle.bpfagent_c.proofs.texts.bpfagent_check.Goals as goal

pub returns : goal.returns
returns c = (c.fault_of-found.result, c.fault_of-found.ensures, search rules, search rules)
