use Rattle.std.proofs.Common.{rules, Ok, Err}
use Rattle.bpfagent_c.proofs.texts.bpfagent_assemble.Goals as goal

pub returns-in-Ok : goal.returns-in-Ok
returns-in-Ok c = (Ok c.in-Ok.found.items, c.in-Ok.ensures.ok, search rules, search rules, search rules, search rules)

pub returns-in-Err : goal.returns-in-Err
returns-in-Err c = (Err c.in-Err.error, c.in-Err.ensures.err, search rules, search rules, search rules, search rules)
