use Rattle.std.proofs.Common.{rules, Ok}
use Rattle.bpfagent_c.proofs.texts.bpfagent_text.Goals as goal

pub returns-in-Ok : goal.returns-in-Ok
returns-in-Ok c = (Ok c.in-Ok.found.items, c.in-Ok.ensures.ok, search rules, search rules, search rules)
